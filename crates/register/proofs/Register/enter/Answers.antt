use Rattle.std.proofs.Common.{◌<◌, length, inl, inr, sym, refl, ap, ◌∙◌, subst}
use Rattle.std.proofs.lemmas.Bool.{cases_lt, false≢true}
use Rattle.std.proofs.lemmas.Result.{err_from_is_err_and}
use Rattle.register_model.specs.Calls.Call.{enter}
use Rattle.register_model.specs.Calls.Outcome.{accepted}
use Rattle.register_model.specs.Entries.{new_entry, put, slot}
use Rattle.register_model.specs.Reasons.{OneMore}
use Rattle.register_model.specs.declared.TheConstants.{CAPACITY}
use Rattle.register_model.proofs.Places.{put_in}
use Rattle.register.specs.Meanings.{unmended}
use Rattle.register.specs.Registers.{entries_in, meaning_in}
use Rattle.register.proofs.Answering.{enter_accepted, enter_faulty, enter_full, enter_met}
use Rattle.register.proofs.Lawful.{accepted_holds}
use Rattle.register.proofs.Making.{accepted_made, refused_made}
use Rattle.register.proofs.Register.enter.Goals as goal

pub returns-in_err-kept : goal.returns-in_err-kept
returns-in_err-kept g c =
    let p = err_from_is_err_and c.from_residual.result c.from_residual.ensures.1 in
    rw (p.1, p.2)
    (λ mended. refused_made mended c.args.self.now (enter c.args.name.now c.args.number c.args.mode) _
    (enter_faulty (meaning_in mended c.args.self.now) (entries_in c.args.self.now) c.args.name.now c.args.mode _ (c.in_err-kept.ensures.fault mended)))

pub returns-in_err-check_meeting : goal.returns-in_err-check_meeting
returns-in_err-check_meeting g c =
    let p = err_from_is_err_and c.from_residual-in_err-check_meeting.result c.from_residual-in_err-check_meeting.ensures.1 in
    let k = c.in_err-check_meeting.ensures in
    rw (p.1, p.2, k.2)
    (λ mended. refused_made mended c.args.self.now (enter c.args.name.now c.args.number c.args.mode) _
    (enter_met (meaning_in mended c.args.self.now) (entries_in c.args.self.now) c.args.name.now c.args.mode (c.in_ok-kept.ensures.fault mended) _ k.1))

pub returns-then-is_full : goal.returns-then-is_full
returns-then-is_full g c =
    rw c.into.ensures
    (λ mended. refused_made mended c.args.self.now (enter c.args.name.now c.args.number c.args.mode) _
    (enter_full (meaning_in mended c.args.self.now) (entries_in c.args.self.now) c.args.name.now c.args.mode (c.in_ok-kept.ensures.fault mended) c.in_ok-check_meeting.ensures (c.if-is_full.ensures.0 refl)))

pub returns : goal.returns
returns g c =
    let es = entries_in c.args.self.now in
    let x = c.args.name.now in
    let name = c.in_ok-kept.ensures.name in
    let entry = new_entry x c.args.number c.args.mode in
    let room : length es < CAPACITY = elim (cases_lt (length es) CAPACITY) [ inl l ↦ l | inr l ↦ absurd (false≢true (c.if-is_full.ensures.1 l)) ] in
    let at = c.put-place.ensures.place ∙ ap (λ z. slot z es) name in
    let left = c.put-place.ensures.entries ∙ ap (λ z. put (new_entry z c.args.number c.args.mode) es) name in
    λ mended.
    let a = enter_accepted (meaning_in mended c.args.self.now) es x c.args.mode (c.in_ok-kept.ensures.fault mended) c.in_ok-check_meeting.ensures room in
    accepted_made mended c.args.self.now (enter x c.args.number c.args.mode) _ _ (ap accepted at ∙ a) left
    (subst (OneMore x c.args.number c.args.mode c.put-place.result es) (sym left)
    (subst (λ p. OneMore x c.args.number c.args.mode p es (put entry es)) (sym at) (put_in entry es)))
    (refl, refl)

pub invariant_of-self : goal.invariant_of-self
invariant_of-self g c =
    let m = meaning_in unmended c.args.self.now in
    let es = entries_in c.args.self.now in
    let x = c.args.name.now in
    let name = c.in_ok-kept.ensures.name in
    let room : length es < CAPACITY = elim (cases_lt (length es) CAPACITY) [ inl l ↦ l | inr l ↦ absurd (false≢true (c.if-is_full.ensures.1 l)) ] in
    let a = enter_accepted m es x c.args.mode (c.in_ok-kept.ensures.fault unmended) c.in_ok-check_meeting.ensures room in
    let left = c.put-place.ensures.entries ∙ ap (λ z. put (new_entry z c.args.number c.args.mode) es) name in
    let files = c.args.self.now.files in
    record {
      holds = accepted_holds g.R.Rulebook g.F.FileSystem files g.met.R.Rulebook.no_empty_component (g.met.F.FileSystem.symmetric files) (g.met.F.FileSystem.equal_keys_together files)
          es _ c.args.self.now.holds (enter x c.args.number c.args.mode) _ a left;
    }
