-- What comparisons and tests tell, in the words of the protections and of the pairs.
use Rattle.std.proofs.Common.{◌≡◌, ℕ, Bool, false, ◌||◌, eqb, List, Decides, sym, refl, subst, ◌∙◌}
use Rattle.std.specs.Cmp.Lexicographic.{pointwise}
use Rattle.std.proofs.lemmas.Slice.Eq.{slice_eq-Decides}
use Rattle.std.proofs.lemmas.Bool.Decides.{Decides-eqb, same_from_decides}
use Rattle.std.specs.Prelude.{bytes_eq}
use Rattle.protections.proofs.Equal.{bytes_eq-decides}
use Rattle.filesystems.specs.PairLemmas.{confused-decides}
use Rattle.filesystems.specs.Pairs.{Confused, Pairs, confused, is_declared}

-- A test that decides whether two lists are the same is `bytes_eq`.
pub bytes_eq-decided : (r : Bool) (xs ys : List ℕ) → Decides r (xs ≡ ys) → bytes_eq xs ys ≡ r
bytes_eq-decided r xs ys d = same_from_decides (bytes_eq xs ys) r (bytes_eq-decides xs ys) d

-- The comparison of two slices of numbers is `bytes_eq`.
pub pointwise_bytes_eq : (xs ys : List ℕ) → pointwise eqb xs ys ≡ bytes_eq xs ys
pointwise_bytes_eq xs ys = sym (bytes_eq-decided _ xs ys (slice_eq-Decides Decides-eqb xs ys (pointwise eqb xs ys) refl))

-- Where the components differ, the declared pairs decide.
pub pairs_decide : (pairs : Pairs) (a b : List ℕ) (r : Bool) → false ≡ bytes_eq a b → r ≡ (is_declared pairs a b || is_declared pairs b a)
    → Decides r (Confused pairs a b)
unfolding confused
pairs_decide pairs a b r differ e =
    let same : r ≡ confused pairs a b = e ∙ rw (← differ) in
    subst (λ t. Decides t (Confused pairs a b)) (sym same) (confused-decides pairs a b)
