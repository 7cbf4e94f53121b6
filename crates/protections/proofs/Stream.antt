-- A step off the bytes before a colon.
use Rattle.std.proofs.Common.{◌≡◌, ℕ, ◌≤◌, false, List, [], ◌∷◌, length, get_or, Some, None, Option, codes, sym, ap, ◌∙◌, arith}
use Rattle.std.specs.Char.{to_ascii_lowercase, char_set_contains}
use Rattle.std.proofs.lemmas.Bool.{ne_eqb}
use Rattle.std.specs.Iterator.{YieldsFirst}
use Rattle.protections.specs.Keys.{lowered, until_any}
use Rattle.protections.specs.EndLemmas.{colon, until_any_lowered}
use Rattle.protections.proofs.EndedKey.{past}

small_first : (s : List ℕ) → lowered (until_any (codes ":") s) ≡ until_any (codes ":") (lowered s)
small_first s = until_any_lowered (codes ":") colon s

pub until_colon : (s t : List ℕ) (r : Option ℕ) → (1 ≤ length s → get_or s 0 0 ≡ 58 → ⊥) → YieldsFirst lowered s r t →
    YieldsFirst (λ u. lowered (until_any (codes ":") u)) s r t
until_colon s t None h k = (small_first s ∙ ap (until_any (codes ":")) k.0, small_first t ∙ ap (until_any (codes ":")) k.1)
until_colon [] t (Some x) h k = let z : ◌≡◌ {A = ℕ} 0 1 = cc in let w : ⊥ = omega arith in absurd w
until_colon (b ∷ u) t (Some x) h k =
    let other : char_set_contains (codes ":") b ≡ false = rw (ne_eqb 58 b (λ q. h (omega arith) (sym q))) in
    let first : to_ascii_lowercase b ≡ x = cc in
    let others : lowered u ≡ lowered t = cc in
    ap lowered (past (codes ":") b u other) ∙ rw (first, small_first u, small_first t, others)
