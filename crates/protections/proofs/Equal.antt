-- The tests on lists say what they are for.
use Rattle.std.specs.Option.{option_map, option_map_or}
use Rattle.std.proofs.Common.{MatchOption, ◌≡◌, ℕ, Bool, true, List, Some, None, Decides, Option, sym, refl, subst}
use Rattle.std.proofs.lemmas.Slice.Eq.{bytes_eq-Decides}
use Rattle.std.specs.Prelude.{bytes_eq}

pub bytes_eq-decides : (xs ys : List ℕ) → Decides (bytes_eq xs ys) (xs ≡ ys)
bytes_eq-decides = bytes_eq-Decides

pub bytes_eq-true : (xs ys : List ℕ) → bytes_eq xs ys ≡ true → xs ≡ ys
bytes_eq-true xs ys = (bytes_eq-decides xs ys).0

pub bytes_eq-refl : (xs : List ℕ) → bytes_eq xs xs ≡ true
bytes_eq-refl xs = (bytes_eq-decides xs xs).1 refl

pub decided : (xs ys : List ℕ) (r : Bool) → r ≡ bytes_eq xs ys → Decides r (xs ≡ ys)
decided xs ys r e = subst (λ b. Decides b (xs ≡ ys)) (sym e) (bytes_eq-decides xs ys)

-- what a test of an optional value answers
pub tested : {X : Type 0} (test : X → Bool) (none : Bool) (o : Option X) (r : Bool) (Post : X → Type 0) → MatchOption o (r ≡ none) Post →
    ((x : X) → Post x → r ≡ test x) → r ≡ option_map_or test o none
tested test none None r Post h e = h
tested test none (Some x) r Post h e = e x h

pub test_mapped : {X Y : Type 0} (f : X → Y) (test : Y → Bool) (o : Option X) (none : Bool) → option_map_or (λ x. test (f x)) o none ≡ option_map_or test (option_map f o) none
test_mapped f test None none = refl
test_mapped f test (Some x) none = refl
