-- The order of bytes is transitive, and of two different names one precedes the other.
use Rattle.std.proofs.Common.{◌≡◌, ℕ, true, false, List, [], ◌∷◌, sym, refl, arith}
use Rattle.std.proofs.lemmas.Bool.{false≢true}
use Rattle.std.proofs.lemmas.Bool.Decides.{nat_tests}
use Rattle.register_model.specs.Entries.{precedes}

-- A name that precedes a second, which precedes a third, precedes the third.
pub precedes_further : (x y z : List ℕ) → precedes x y ≡ true → precedes y z ≡ true → precedes x z ≡ true
unfolding precedes
precedes_further [] [] z h k = k
precedes_further [] (y ∷ ys) [] h k = k
precedes_further [] (y ∷ ys) (z ∷ zs) h k = refl
precedes_further (x ∷ xs) [] z h k = absurd (false≢true h)
precedes_further (x ∷ xs) (y ∷ ys) [] h k = k
precedes_further (x ∷ xs) (y ∷ ys) (z ∷ zs) h k = let more = precedes_further xs ys zs in grind (arith, nat_tests)

-- Of two different names, one that does not precede the other comes after it.
pub precedes_turned : (x y : List ℕ) → precedes x y ≡ false → (x ≡ y → ⊥) → precedes y x ≡ true
unfolding precedes
precedes_turned [] [] h n = absurd (n refl)
precedes_turned [] (y ∷ ys) h n = absurd (false≢true (sym h))
precedes_turned (x ∷ xs) [] h n = refl
precedes_turned (x ∷ xs) (y ∷ ys) h n =
    let more : precedes xs ys ≡ false → x ≡ y → precedes ys xs ≡ true = λ f e. precedes_turned xs ys f (λ s. n (cc)) in grind (arith, nat_tests)
