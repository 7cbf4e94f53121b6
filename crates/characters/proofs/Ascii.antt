-- Bytes below 0x80 are their own code points.
use Rattle.std.proofs.Common.{◌≡◌, ℕ, ◌<◌, true, List, [], ◌∷◌, map, drop, Some, refl, ap, ◌∙◌, subst, arith}
use Rattle.std.specs.List.{common_prefix_len, AllByRecursion}
use Rattle.characters.specs.declared.Part.TheVariants.{Character}
use Rattle.characters.specs.Table.{table, lies_in, following_of, ◌to◌}
use Rattle.characters.specs.Standard.{point, size}
use Rattle.characters.specs.Reader.{part_by, next_part, parts, code_points}
use Rattle.characters.proofs.Rows.{inside}
use Rattle.characters.proofs.Steps.{parts_nil, parts_cons}

no_ranges : (s : List ℕ) → common_prefix_len lies_in s [] ≡ 0
no_ranges [] = refl
no_ranges (b ∷ s) = refl

alone : (b : ℕ) (s : List ℕ) → b < 128 → next_part b s ≡ Character b 1
unfolding next_part part_by
alone b s h =
    let first : lies_in b (0x00 to 0x7F) ≡ true = inside b (0x00 to 0x7F) (omega arith) (omega arith) in
    let ranges : following_of table b ≡ Some [] = rw first in
    let part : part_by b s (Some []) ≡ Character b 1 = rw (no_ranges s) in
    ap (part_by b s) ranges ∙ part

pub ascii_points : (s : List ℕ) → AllByRecursion (λ b. b < 128) s → code_points s ≡ s
unfolding code_points
ascii_points [] h = ap (map point) parts_nil
ascii_points (b ∷ s) h =
    let first : parts (b ∷ s) ≡ Character b 1 ∷ parts s =
    subst (λ p. parts (b ∷ s) ≡ p ∷ parts (drop (size p) (b ∷ s))) (alone b s h.0) (parts_cons b s)
    in
    ap (map point) first ∙ ap (λ t. b ∷ t) (ascii_points s h.1)
