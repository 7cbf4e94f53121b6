-- A word that is split at the first of some byte.
use Rattle.std.proofs.Common.{◌≡◌, ℕ, ◌<◌, ◌↔◌, eqb, List, length, get_or, Some, None, Option, Bor, IsSome, IfSome, Contains, MatchOption, refl, arith}
use Rattle.std.specs.List.{position_or_len, before_first, after_first}
use Rattle.std.proofs.lemmas.List.Sums.{fails_before_first, passes_at_first}
use Rattle.std.proofs.lemmas.Bool.{eqb-true, eqb-false, false≢true}
use Rattle.std.proofs.lemmas.Grind.{common_steps}

-- What is said of the two parts of s at its first byte b.
abbrev pub IsSplit : ℕ → List ℕ → Option (Bor (List ℕ) × Bor (List ℕ)) → Type 0
IsSplit b s o =
    MatchOption o (position_or_len (λ x. eqb x b) s ≡ length s)
    (λ p. (p.0.now ≡ before_first (λ x. eqb x b) s) × (p.1.now ≡ after_first (λ x. eqb x b) s) × (position_or_len (λ x. eqb x b) s < length s))

-- None of the bytes before the first b is b.
before_is_free : (b : ℕ) (s : List ℕ) → Contains (before_first (λ x. eqb x b) s) b → ⊥
before_is_free b s (k, less, is) =
    let other = fails_before_first (λ x. eqb x b) s k b (grind (arith, common_steps)) in
    let same : get_or s k b ≡ b = grind (arith, common_steps) in
    eqb-false _ _ other same

pub first_part : (b : ℕ) (s : List ℕ) (o : Option (Bor (List ℕ) × Bor (List ℕ))) → IsSplit b s o → IfSome o (λ p. Contains p.0.now b → ⊥)
first_part b s None h = tt
first_part b s (Some p) (before, after, inside) = rw before (before_is_free b s)

pub is_found : (b : ℕ) (s : List ℕ) (o : Option (Bor (List ℕ) × Bor (List ℕ))) → IsSplit b s o → IsSome o ↔ Contains s b
is_found b s None none = (λ h. absurd (false≢true h), λ (k, less, is). absurd (eqb-false _ _ (fails_before_first (λ x. eqb x b) s k b (omega arith)) is))
is_found b s (Some p) (before, after, inside) = (λ _. (position_or_len (λ x. eqb x b) s, inside, eqb-true _ _ (passes_at_first (λ x. eqb x b) s b inside)), λ _. refl)
