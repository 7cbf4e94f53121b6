use Rattle.std.proofs.Common.{sym, refl, ◌∙◌, subst}
use Rattle.std.proofs.lemmas.Result.{err_from_is_err_and}
use Rattle.register_model.specs.Calls.Call.{remove}
use Rattle.register_model.specs.Reasons.{OneMore}
use Rattle.register.specs.Entries.{number_by_place}
use Rattle.register.specs.Meanings.{unmended}
use Rattle.register.specs.Registers.{entries_in, meaning_in}
use Rattle.register.proofs.Answering.{place_kept, place_refused, remove_accepted, remove_unkept}
use Rattle.register.proofs.Lawful.{accepted_holds}
use Rattle.register.proofs.Making.{accepted_made, refused_made}
use Rattle.register.proofs.Striking.{stands}
use Rattle.register.proofs.Register.remove.Goals as goal

pub returns-in_err-place : goal.returns-in_err-place
returns-in_err-place g c =
    let p = err_from_is_err_and c.from_residual.result c.from_residual.ensures.1 in
    let k = place_refused _ _ _ (sym c.ok_or.ensures.value ∙ c.in_err-place.was) in
    rw (p.1, p.2, k.1)
    (λ mended. refused_made mended c.args.self.now (remove c.args.name.now) _
    (remove_unkept (meaning_in mended c.args.self.now) (entries_in c.args.self.now) c.args.name.now (k.0 ∙ c.place_of.ensures)))

pub remove-requires : goal.remove-requires
remove-requires g c =
    let k = place_kept _ _ _ (sym c.ok_or.ensures.value ∙ c.in_ok-place.was) in
    let s = stands c.args.name.now (entries_in c.args.self.now) _ (sym (k ∙ c.place_of.ensures)) in
    s.inside

pub returns : goal.returns
returns g c =
    let es = entries_in c.args.self.now in
    let k = place_kept _ _ _ (sym c.ok_or.ensures.value ∙ c.in_ok-place.was) ∙ c.place_of.ensures in
    let s = stands c.args.name.now es _ (sym k) in
    λ mended. accepted_made mended c.args.self.now (remove c.args.name.now) _ _ (remove_accepted (meaning_in mended c.args.self.now) es c.args.name.now _ k)
    (c.remove.ensures ∙ sym s.struck)
    (number_by_place c.in_ok-place.place es, s.was, subst (λ t. OneMore c.args.name.now (number_by_place c.in_ok-place.place es) s.was c.in_ok-place.place t es) (sym c.remove.ensures) s.taken)
    (refl, refl)

pub invariant_of-self : goal.invariant_of-self
invariant_of-self g c =
    let m = meaning_in unmended c.args.self.now in
    let es = entries_in c.args.self.now in
    let k = place_kept _ _ _ (sym c.ok_or.ensures.value ∙ c.in_ok-place.was) ∙ c.place_of.ensures in
    let s = stands c.args.name.now es _ (sym k) in
    let files = c.args.self.now.files in
    record {
      holds = accepted_holds g.R.Rulebook g.F.FileSystem files g.met.R.Rulebook.no_empty_component (g.met.F.FileSystem.symmetric files) (g.met.F.FileSystem.equal_keys_together files)
          es _ c.args.self.now.holds (remove c.args.name.now) _ (remove_accepted m es c.args.name.now _ k) (c.remove.ensures ∙ sym s.struck);
    }
