use Rattle.std.proofs.Common.{Contains, sym, subst, ◌∙◌, inl, inr, ⊎_elim, arith}
use Rattle.std.proofs.lemmas.Result.{err_from_is_err_and}
use Rattle.mending.specs.Mender.{mended}
use Rattle.register.specs.Meanings.{unmended}
use Rattle.register.specs.Registers.{entries_in}
use Rattle.calling.proofs.InTurn.{and_then, refused, the_last}
use Rattle.calling.proofs.Placed.{at_place, either_way, if_ok, it_stands, longer, differs, with_others, without_it}
use Rattle.calling.proofs.begin_semester.Goals as goal

pub returns-in_err-remove-clause-answer : goal.returns-in_err-remove-clause-answer
returns-in_err-remove-clause-answer c =
    let returned = err_from_is_err_and c.from_residual.result c.from_residual.ensures.1 in
    rw (returned.1, returned.2) (refused mended _ _ _ (c.in_err-remove.ensures mended))

pub returns-in_err-rename-clause-answer : goal.returns-in_err-rename-clause-answer
returns-in_err-rename-clause-answer c =
    let returned =
    err_from_is_err_and c.from_residual-in_err-rename.result c.from_residual-in_err-rename.ensures.1 in
    rw (returned.1, returned.2)
    (and_then mended _ _ _ _ (c.in_ok-remove.ensures mended)
    (refused mended _ _ _ (c.in_err-rename.ensures mended)))

pub returns-in_err-enter-clause-answer : goal.returns-in_err-enter-clause-answer
returns-in_err-enter-clause-answer c =
    let returned =
    err_from_is_err_and c.from_residual-in_err-enter.result c.from_residual-in_err-enter.ensures.1 in
    rw (returned.1, returned.2)
    (and_then mended _ _ _ _ (c.in_ok-remove.ensures mended)
    (and_then mended _ _ _ _ (c.in_ok-rename.ensures mended)
    (refused mended _ _ _ (c.in_err-enter.ensures mended))))

pub returns-clause-answer : goal.returns-clause-answer
returns-clause-answer c =
    and_then mended _ _ _ _ (c.in_ok-remove.ensures mended)
    (and_then mended _ _ _ _ (c.in_ok-rename.ensures mended)
    (and_then mended _ _ _ _ (c.in_ok-enter.ensures mended) (the_last mended _ _ c.offer.ensures.made)))

pub returns-in_err-remove-clause-others : goal.returns-in_err-remove-clause-others
returns-in_err-remove-clause-others c = λ e kept _ _.
    subst (λ r. Contains (entries_in r) e) (sym (c.in_err-remove.ensures unmended).unaltered) kept

pub returns-in_err-remove-clause-files : goal.returns-in_err-remove-clause-files
returns-in_err-remove-clause-files c = (c.remove.ensures unmended).same_rules.1

pub returns-in_err-rename-clause-others : goal.returns-in_err-rename-clause-others
returns-in_err-rename-clause-others c = λ e kept not_closed _.
    let removed = (c.in_ok-remove.ensures unmended).placed in
    let left = without_it removed.2 e kept not_closed in
    subst (λ r. Contains (entries_in r) e) (sym (c.in_err-rename.ensures unmended).unaltered) left

pub returns-in_err-rename-clause-files : goal.returns-in_err-rename-clause-files
returns-in_err-rename-clause-files c =
    (c.rename.ensures unmended).same_rules.1 ∙ (c.remove.ensures unmended).same_rules.1

pub returns-in_err-enter-clause-others : goal.returns-in_err-enter-clause-others
returns-in_err-enter-clause-others c = λ e kept not_closed not_old.
    let removed = (c.in_ok-remove.ensures unmended).placed in
    let renamed = (c.in_ok-rename.ensures unmended).placed in
    let left = without_it renamed.4 e (without_it removed.2 e kept not_closed) not_old in
    subst (λ r. Contains (entries_in r) e) (sym (c.in_err-enter.ensures unmended).unaltered)
    (with_others renamed.5 e left)

pub returns-in_err-enter-clause-files : goal.returns-in_err-enter-clause-files
returns-in_err-enter-clause-files c =
    (c.enter.ensures unmended).same_rules.1
    ∙ ((c.rename.ensures unmended).same_rules.1 ∙ (c.remove.ensures unmended).same_rules.1)

pub returns-clause-begun : goal.returns-clause-begun
returns-clause-begun c =
    let removed = (c.in_ok-remove.ensures unmended).placed in
    let renamed = (c.in_ok-rename.ensures unmended).placed in
    let entered = (c.in_ok-enter.ensures unmended).placed in
    if_ok c.offer.result _ _ c.offer.ensures.made.placed
    (λ p offered. record {
      closed = (removed.0, (removed.1, it_stands removed.2));
      renamed = (
        renamed.2,
        (renamed.3, with_others removed.2 _ (it_stands renamed.4)),
        (_, with_others offered _ (with_others entered _ (it_stands renamed.5))),
      );
      opened = (_, with_others offered _ (it_stands entered));
      titled = at_place offered;
      gone = λ name was given e kept named.
          let last = without_it offered e kept (λ i. given (inr (inr (sym named ∙ i)))) in
          let third = without_it entered e last (λ i. given (inr (inl (sym named ∙ i)))) in
          let second = without_it renamed.5 e third (λ i. given (inl (sym named ∙ i))) in
          let first = with_others renamed.4 e second in
          ⊎_elim
          (λ i. differs removed.2 _ c.args.register.now.holds.apart e first (named ∙ i))
          (λ i. differs renamed.4 _ c.remove.new.self.holds.apart e second (named ∙ i))
          was;
      count = omega (arith, longer removed.2, longer renamed.4, longer renamed.5, longer entered, longer offered);
    })

pub returns-clause-others : goal.returns-clause-others
returns-clause-others c = λ e kept not_closed not_old.
    let removed = (c.in_ok-remove.ensures unmended).placed in
    let renamed = (c.in_ok-rename.ensures unmended).placed in
    let entered = (c.in_ok-enter.ensures unmended).placed in
    let left = without_it renamed.4 e (without_it removed.2 e kept not_closed) not_old in
    let before = with_others entered e (with_others renamed.5 e left) in
    either_way c.offer.result _ _ _ c.offer.ensures.made.placed c.offer.ensures.made.unaltered
    (λ p offered. with_others offered e before)
    (λ unaltered. subst (λ r. Contains (entries_in r) e) (sym unaltered) before)

pub returns-clause-files : goal.returns-clause-files
returns-clause-files c =
    c.offer.ensures.made.same_rules.1
    ∙ ((c.enter.ensures unmended).same_rules.1
    ∙ ((c.rename.ensures unmended).same_rules.1 ∙ (c.remove.ensures unmended).same_rules.1))
