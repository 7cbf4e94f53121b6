-- Which call a line is, by its first two bytes.
use Rattle.std.proofs.Common.{◌≡◌, ℕ, true, false, cond, eqb, ◌<◌, ◌≤◌, List, [], ◌∷◌, length, get_or, drop, None, refl, arith}
use Rattle.std.proofs.lemmas.Bool.{eq-eqb, ne_eqb}
use Rattle.listing.specs.Reading.{call_by, read_line}

-- A line of fewer than two bytes is none.
pub short_line : (s : List ℕ) → length s < 2 → None ≡ read_line s
unfolding read_line
short_line [] l = refl
short_line (k ∷ []) l = refl
short_line (k ∷ (b ∷ s)) l = absurd (omega arith)

-- Nor is one whose second byte is no space.
pub spaceless_line : (s : List ℕ) → 2 ≤ length s → (get_or s 1 0 ≡ 32 → ⊥) → None ≡ read_line s
unfolding read_line
spaceless_line [] l n = refl
spaceless_line (k ∷ []) l n = refl
spaceless_line (k ∷ (b ∷ s)) l n = rw (ne_eqb b 32 n)

-- The first byte decides the others.
pub line_by : (s : List ℕ) → 2 ≤ length s → get_or s 1 0 ≡ 32 → call_by (get_or s 0 0) (drop 2 s) ≡ read_line s
unfolding read_line
line_by [] l e = absurd (omega arith)
line_by (k ∷ []) l e = absurd (omega arith)
line_by (k ∷ (b ∷ s)) l e = rw (eq-eqb b 32 e)

-- Another first byte.
pub other_line : (s : List ℕ) → 2 ≤ length s → (get_or s 0 0 ≡ 101 → ⊥) → (get_or s 0 0 ≡ 111 → ⊥)
    → (get_or s 0 0 ≡ 114 → ⊥) → (get_or s 0 0 ≡ 100 → ⊥) → None ≡ read_line s
unfolding read_line
other_line [] l a b c d = refl
other_line (k ∷ []) l a b c d = refl
other_line (k ∷ (n ∷ s)) l a b c d = elim (eqb n 32) as (λ t. None ≡ cond t (call_by k s) None) [
  | true ↦ rw (ne_eqb k 101 a, ne_eqb k 111 b, ne_eqb k 114 c, ne_eqb k 100 d)
  | false ↦ refl
]
