-- The numbers that both yield do not matter, and after them nothing may count.
use Rattle.std.proofs.Common.{sym, inl, inr, ◌∙◌}
use Rattle.protections.proofs.Equal.{decided}
use Rattle.protections.proofs.Trimmed.{passed, differ}
use Rattle.protections.proofs.keys.same_key.Goals as goal
use Rattle.protections.proofs.keys.same_key.Goals.{then-is_none-via-then-is_none, then-is_none-via-else-is_none+then-ne}

pub loop-number-preserved : goal.loop-number-preserved
loop-number-preserved g c =
    let set = g.P.Keyed.ignored_at_end c.args.protection.now in
    c.loop-number.invariant
    ∙ passed set _ _ _ _ _ _ c.next-number.ensures.steps c.next-other.ensures.steps c.if-is_none.ensures c.if-ne.ensures

pub returns-then-all_ignored_at_end : goal.returns-then-all_ignored_at_end
returns-then-all_ignored_at_end g c =
    let set = g.P.Keyed.ignored_at_end c.args.protection.now in
    let left = differ set _ _ _ _ _ _ c.next-number.ensures.steps c.next-other.ensures.steps (elim c.then-is_none.branch [
      | then-is_none-via-then-is_none w ↦ inl w.if-is_none.ensures
      | then-is_none-via-else-is_none+then-ne w ↦ inr w.if-ne.ensures
    ]) in
    let both = c.all_ignored_at_end-then-all_ignored_at_end.ensures ∙ sym (c.loop-number.invariant ∙ left ∙ rw (← c.if-all_ignored_at_end.ensures)) in
    decided _ _ _ (rw (c.new-left.ensures.key, c.new-right.ensures.key) both)

pub returns-else-all_ignored_at_end : goal.returns-else-all_ignored_at_end
returns-else-all_ignored_at_end g c =
    let set = g.P.Keyed.ignored_at_end c.args.protection.now in
    let left = differ set _ _ _ _ _ _ c.next-number.ensures.steps c.next-other.ensures.steps (elim c.then-is_none.branch [
      | then-is_none-via-then-is_none w ↦ inl w.if-is_none.ensures
      | then-is_none-via-else-is_none+then-ne w ↦ inr w.if-ne.ensures
    ]) in
    let both = c.if-all_ignored_at_end.false ∙ sym (c.loop-number.invariant ∙ left ∙ rw (← c.if-all_ignored_at_end.ensures)) in
    decided _ _ _ (rw (c.new-left.ensures.key, c.new-right.ensures.key) both)
