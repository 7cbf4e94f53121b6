-- The three refusals before the protections are asked are the first in words.
use Rattle.std.proofs.Common.{sym, ◌∙◌}
use Rattle.path.proofs.FirstRefusal.{empty_first, relative_first, slash_first}
use Rattle.path.proofs.component.Goals as goal

pub returns-then-is_empty-clause-first : goal.returns-then-is_empty-clause-first
returns-then-is_empty-clause-first c = empty_first _ _ _ (sym c.is_empty.ensures ∙ c.if-is_empty.true)

pub returns-then-relative-clause-first : goal.returns-then-relative-clause-first
returns-then-relative-clause-first c =
    relative_first _ _ _ (sym c.is_empty.ensures ∙ c.if-is_empty.false) (sym c.relative.ensures ∙ c.if-relative.true)

pub returns-then-contains-clause-first : goal.returns-then-contains-clause-first
returns-then-contains-clause-first c =
    slash_first _ _ _ (sym c.is_empty.ensures ∙ c.if-is_empty.false) (sym c.relative.ensures ∙ c.if-relative.false)
    (sym c.contains.ensures.value ∙ c.if-contains.true)
