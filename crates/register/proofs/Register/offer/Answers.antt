use Rattle.std.proofs.Common.{◌≡◌, take, IfOk, None, sym, ap, ◌∙◌, subst, arith}
use Rattle.std.proofs.lemmas.Result.{err_from_is_err_and}
use Rattle.register_model.specs.Calls.{entering}
use Rattle.register_model.specs.Calls.Call.{offer}
use Rattle.register_model.specs.Reasons.{Because, IfAccepted, OneMore}
use Rattle.register_model.proofs.Becauses.{because}
use Rattle.register.specs.Faults.{outcome_of}
use Rattle.register.specs.Registers.{entries_in, meaning_in, state_in}
use Rattle.register.proofs.Answering.{offer_answer, offer_leaves, offer_long}
use Rattle.register.proofs.Making.{refused_made}
use Rattle.register.proofs.Register.offer.Goals as goal

pub returns-in_err-check_length : goal.returns-in_err-check_length
returns-in_err-check_length g c =
    let m = meaning_in g.R.MendingRulebook.mended c.args.self.now in
    let es = entries_in c.args.self.now in
    let p = err_from_is_err_and c.from_residual.result c.from_residual.ensures.1 in
    let k = c.in_err-check_length.ensures in
    rw (p.1, p.2, k.1)
    (record {
      made = refused_made g.R.MendingRulebook.mended c.args.self.now (offer c.args.text.now c.args.number) _ (offer_long m es c.args.text.now k.0);
      as_mended = λ l. absurd (omega (arith, k.0));
      as_allowed = λ l. absurd (omega (arith, k.0));
    })

pub returns : goal.returns
returns g c =
    let m = meaning_in g.R.MendingRulebook.mended c.args.self.now in
    let s = state_in c.args.self.now in
    let text = c.args.text.now in
    let mended = g.R.MendingRulebook.mended text in
    let x : take c.unwrap-length.result c.mend_into.new.out ≡ mended =
    subst (λ r. IfOk r (λ n. take n c.mend_into.new.out ≡ mended)) c.unwrap-length.ensures c.mend_into.ensures.text in
    let made = c.enter.ensures g.R.MendingRulebook.mended in
    let l = c.in_ok-check_length.ensures in
    let a = offer_answer m s text _ x l _ made.answer in
    let entered : outcome_of c.enter.result ≡ entering m s.kept mended None
    = made.answer ∙ ap (λ z. entering m s.kept z None) x in
    record {
      made = record {
        answer = a;
        because = subst (Because m s (offer text c.args.number)) (sym a) (because m s (offer text c.args.number));
        state = offer_leaves m s text _ x l c.args.number _ made.state;
        placed = subst (λ z. IfAccepted (outcome_of c.enter.result) (λ p. OneMore z c.args.number None p s.kept (entries_in c.enter.new.self))) x made.placed;
        same_rules = made.same_rules;
        unaltered = made.unaltered;
      };
      as_mended = λ _. entered;
      as_allowed = λ _ fine. entered ∙ ap (λ z. entering m s.kept z None) (g.met.R.MendingRulebook.allowed_stays text fine);
    }
