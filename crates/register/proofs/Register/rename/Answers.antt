use Rattle.std.proofs.Common.{sym, refl, ap, ◌∙◌, subst}
use Rattle.std.specs.List.{remove as without}
use Rattle.std.proofs.lemmas.Result.{err_from_is_err_and}
use Rattle.register_model.specs.Calls.Call.{rename}
use Rattle.register_model.specs.Calls.Outcome.{accepted}
use Rattle.register_model.specs.Entries.{put, slot}
use Rattle.register_model.specs.Reasons.{OneMore}
use Rattle.register_model.proofs.Places.{put_in}
use Rattle.register.specs.Entries.{number_by_place, renamed}
use Rattle.register.specs.Meanings.{unmended}
use Rattle.register.specs.Registers.{entries_in, meaning_in}
use Rattle.register.proofs.Answering.{place_kept, place_refused, rename_accepted, rename_faulty, rename_met, rename_unkept, renamed_entry}
use Rattle.register.proofs.Lawful.{accepted_holds}
use Rattle.register.proofs.Making.{accepted_made, refused_made}
use Rattle.register.proofs.Striking.{stands}
use Rattle.register.proofs.Register.rename.Goals as goal

pub returns-in_err-kept : goal.returns-in_err-kept
returns-in_err-kept g c =
    let p = err_from_is_err_and c.from_residual.result c.from_residual.ensures.1 in
    rw (p.1, p.2)
    (λ mended. refused_made mended c.args.self.now (rename c.args.old.now c.args.new.now c.args.mode) _
    (rename_faulty (meaning_in mended c.args.self.now) (entries_in c.args.self.now) c.args.old.now c.args.new.now c.args.mode _ (c.in_err-kept.ensures.fault mended)))

pub returns-in_err-from : goal.returns-in_err-from
returns-in_err-from g c =
    let p = err_from_is_err_and c.from_residual-in_err-from.result c.from_residual-in_err-from.ensures.1 in
    let k = place_refused _ _ _ (sym c.ok_or.ensures.value ∙ c.in_err-from.was) in
    rw (p.1, p.2, k.1)
    (λ mended. refused_made mended c.args.self.now (rename c.args.old.now c.args.new.now c.args.mode) _
    (rename_unkept (meaning_in mended c.args.self.now) (entries_in c.args.self.now) c.args.old.now c.args.new.now c.args.mode (c.in_ok-kept.ensures.fault mended) (k.0 ∙ c.place_of.ensures)))

pub returns-in_err-check_meeting : goal.returns-in_err-check_meeting
returns-in_err-check_meeting g c =
    let k = place_kept _ _ _ (sym c.ok_or.ensures.value ∙ c.in_ok-from.was) ∙ c.place_of.ensures in
    let p = err_from_is_err_and c.from_residual-in_err-check_meeting.result c.from_residual-in_err-check_meeting.ensures.1 in
    let met = c.in_err-check_meeting.ensures in
    rw (p.1, p.2, met.2)
    (λ mended. refused_made mended c.args.self.now (rename c.args.old.now c.args.new.now c.args.mode) _
    (rename_met (meaning_in mended c.args.self.now) (entries_in c.args.self.now) c.args.old.now c.args.new.now c.args.mode (c.in_ok-kept.ensures.fault mended) _ k _ met.1))

pub rename-requires : goal.rename-requires
rename-requires g c =
    let k = place_kept _ _ _ (sym c.ok_or.ensures.value ∙ c.in_ok-from.was) ∙ c.place_of.ensures in
    let s = stands c.args.old.now (entries_in c.args.self.now) _ (sym k) in
    s.inside

pub returns : goal.returns
returns g c =
    let es = entries_in c.args.self.now in
    let name = c.in_ok-kept.ensures.name in
    let k = place_kept _ _ _ (sym c.ok_or.ensures.value ∙ c.in_ok-from.was) ∙ c.place_of.ensures in
    let s = stands c.args.old.now es _ (sym k) in
    let others = without es c.in_ok-from.from in
    let n = number_by_place c.in_ok-from.from es in
    let moved = renamed es c.in_ok-from.from c.args.new.now c.args.mode in
    let at = c.rename.ensures.place ∙ ap (λ z. slot z others) name in
    let left = c.rename.ensures.entries ∙ ap (λ z. put (renamed es c.in_ok-from.from z c.args.mode) others) name in
    λ mended.
    let a = rename_accepted (meaning_in mended c.args.self.now) es c.args.old.now c.args.new.now c.args.mode (c.in_ok-kept.ensures.fault mended) _ k c.in_ok-check_meeting.ensures s in
    accepted_made mended c.args.self.now (rename c.args.old.now c.args.new.now c.args.mode) _ _ (ap accepted at ∙ a)
    (left ∙ renamed_entry (meaning_in mended c.args.self.now) es c.args.old.now c.args.new.now c.args.mode _ s) (
      others,
      c.in_ok-from.from,
      n,
      s.was,
      s.taken,
      subst (OneMore c.args.new.now n c.args.mode c.rename.result others) (sym left)
          (subst (λ p. OneMore c.args.new.now n c.args.mode p others (put moved others)) (sym at) (put_in moved others)),
    )
    (refl, refl)

pub invariant_of-self : goal.invariant_of-self
invariant_of-self g c =
    let m = meaning_in unmended c.args.self.now in
    let es = entries_in c.args.self.now in
    let name = c.in_ok-kept.ensures.name in
    let k = place_kept _ _ _ (sym c.ok_or.ensures.value ∙ c.in_ok-from.was) ∙ c.place_of.ensures in
    let s = stands c.args.old.now es _ (sym k) in
    let a = rename_accepted m es c.args.old.now c.args.new.now c.args.mode (c.in_ok-kept.ensures.fault unmended) _ k c.in_ok-check_meeting.ensures s in
    let left = c.rename.ensures.entries ∙ ap (λ z. put (renamed es c.in_ok-from.from z c.args.mode) (without es c.in_ok-from.from)) name in
    let files = c.args.self.now.files in
    record {
      holds = accepted_holds g.R.Rulebook g.F.FileSystem files g.met.R.Rulebook.no_empty_component (g.met.F.FileSystem.symmetric files) (g.met.F.FileSystem.equal_keys_together files)
          es _ c.args.self.now.holds (rename c.args.old.now c.args.new.now c.args.mode) _ a
          (left ∙ renamed_entry m es c.args.old.now c.args.new.now c.args.mode _ s);
    }
