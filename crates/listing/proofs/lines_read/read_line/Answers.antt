use Rattle.std.proofs.Common.{◌≡◌, ℕ, ◌-◌, ◌≤◌, List, length, get_or, take, drop, Option, sym, refl, ap, ◌∙◌, rules}
use Rattle.std.proofs.lemmas.List.{take_rest}
use Rattle.register_model.specs.Calls.{Call}
use Rattle.listing.specs.Reading.{call_by, read_line}
use Rattle.listing.proofs.FirstBytes.{line_by, other_line, short_line, spaceless_line}
use Rattle.listing.proofs.lines_read.read_line.Goals as goal
use Rattle.listing.proofs.lines_read.read_line.Goals.{in_default-via-then-line-lt2, in_default-via-else-line-lt2+in-101+in_default-1, in_default-via-else-line-lt2+in-111+in_default-1, in_default-via-else-line-lt2+in-114+in_default-1, in_default-via-else-line-lt2+in-100+in_default-1, in_default-via-else-line-lt2+in_default-1}

-- The call by a first byte k, from what stands after the first two bytes.
by_kind : (s : List ℕ) (k : ℕ) → 2 ≤ length s → get_or s 1 0 ≡ 32 → get_or s 0 0 ≡ k
    → (r : Option Call) → r ≡ call_by k (take (length s - 2) (drop 2 s)) → r ≡ read_line s
by_kind s k l e f r a = a ∙ (ap (call_by k) (take_rest s 2) ∙ (ap (λ z. call_by z (drop 2 s)) (sym f) ∙ line_by s l e))

pub returns-in-101 : goal.returns-in-101
returns-in-101 c = by_kind c.args.line.now 101 (search rules) (search rules) (search rules) _ c.read_enter.ensures

pub returns-in-111 : goal.returns-in-111
returns-in-111 c = by_kind c.args.line.now 111 (search rules) (search rules) (search rules) _ c.read_offer.ensures

pub returns-in-114 : goal.returns-in-114
returns-in-114 c = by_kind c.args.line.now 114 (search rules) (search rules) (search rules) _ c.read_rename.ensures

pub returns-in-100 : goal.returns-in-100
returns-in-100 c = by_kind c.args.line.now 100 (search rules) (search rules) (search rules) _ refl

pub returns-in_default : goal.returns-in_default
returns-in_default c = elim c.in_default.branch [
  | in_default-via-then-line-lt2 w ↦ short_line c.args.line.now (search rules)
  | in_default-via-else-line-lt2+in-101+in_default-1 w ↦ spaceless_line c.args.line.now (search rules) (λ e. search rules)
  | in_default-via-else-line-lt2+in-111+in_default-1 w ↦ spaceless_line c.args.line.now (search rules) (λ e. search rules)
  | in_default-via-else-line-lt2+in-114+in_default-1 w ↦ spaceless_line c.args.line.now (search rules) (λ e. search rules)
  | in_default-via-else-line-lt2+in-100+in_default-1 w ↦ spaceless_line c.args.line.now (search rules) (λ e. search rules)
  | in_default-via-else-line-lt2+in_default-1 w ↦
      other_line c.args.line.now (search rules) (λ e. search rules) (λ e. search rules) (λ e. search rules) (λ e. search rules)
]
