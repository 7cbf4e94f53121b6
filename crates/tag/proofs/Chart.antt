-- A chart of the bytes marks the ordinary ones: the test is computed at each of its entries, one after the other.
use Rattle.std.proofs.Common.{◌≡◌, ℕ, zero, suc, ◌+◌, ◌<◌, Bool, true, false, not, ◌&&◌, eqb, List, [], ◌∷◌, length, get_or, sym, refl, ◌∙◌, subst, le_of_suc-le-suc, not-suc-le-zero, add-zero, add-suc, suc-add, zero-add}
use Rattle.std.proofs.lemmas.Bool.{and_parts}
use Rattle.tag.specs.Scanning.{ordinary}

-- Whether two tests agree.
abbrev same : Bool → Bool → Bool
same true b = b
same false b = not b

same_eq : (a b : Bool) → same a b ≡ true → a ≡ b
same_eq true b h = sym h
same_eq false true h = h
same_eq false false h = refl

-- Whether the entries, that of the byte i first, mark the ordinary bytes by o (111).
abbrev marks : ℕ → List ℕ → Bool
marks i [] = true
marks i (x ∷ xs) = same (eqb x 111) (ordinary i) && marks (suc i) xs

marks_at : (xs : List ℕ) (i : ℕ) → marks i xs ≡ true → (k : ℕ) → k < length xs → eqb (get_or xs k 0) 111 ≡ ordinary (i + k)
marks_at [] i t k h = absurd (not-suc-le-zero h)
marks_at (x ∷ xs) i t zero h =
    rw add-zero (same_eq (eqb x 111) (ordinary i) (and_parts _ (marks (suc i) xs) t).0)
marks_at (x ∷ xs) i t (suc k) h =
    subst (λ m. eqb (get_or xs k 0) 111 ≡ ordinary m) (suc-add i k ∙ sym (add-suc i k))
    (marks_at xs (suc i) (and_parts (same (eqb x 111) (ordinary i)) _ t).1 k (le_of_suc-le-suc h))

pub charted : (xs : List ℕ) (b : ℕ) → marks 0 xs ≡ true → b < length xs → eqb (get_or xs b 0) 111 ≡ ordinary b
charted xs b t h = subst (λ m. eqb (get_or xs b 0) 111 ≡ ordinary m) (zero-add b) (marks_at xs 0 t b h)
