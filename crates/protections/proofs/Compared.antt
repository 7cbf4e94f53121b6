-- What `eq` of two iterators answers, where each shows the list of numbers that it has left.
use Rattle.std.proofs.Common.{◌≡◌, ℕ, Bool, true, false, nat_eq, List, [], ◌∷◌, ◌++◌, Some, None, Option, IfSome, MatchOption, sym, refl, ap, ◌∙◌}
use Rattle.std.specs.Iterator.{Yields, YieldsFirst, ComparesItemsByEq}
use Rattle.std.specs.Str.{bytes_eq}
use Rattle.std.proofs.lemmas.Bool.{eqb-true, eq-eqb}
use Rattle.std.proofs.lemmas.List.Elements.{same_from_all_zip}

-- the items that came stand at the front of the list
front : {S : Type 0} (rest : S → List ℕ) (xs : List ℕ) (s t : S) → Yields (YieldsFirst rest) s xs t → rest s ≡ xs ++ rest t
front rest [] s t e = ap rest e
front rest (x ∷ xs) s t (j, now, later) = now ∙ ap (λ ys. x ∷ ys) (front rest xs j t later)

-- equal fronts do not matter
past_front : (xs us vs : List ℕ) → bytes_eq (xs ++ us) (xs ++ vs) ≡ bytes_eq us vs
past_front [] us vs = refl
past_front (x ∷ xs) us vs = rw (eq-eqb x x refl) (past_front xs us vs)

-- one answer more of each decides
last : (us us' vs vs' : List ℕ) (o p : Option ℕ) (r : Bool) → MatchOption o ((us ≡ []) × (us' ≡ [])) (λ x. us ≡ x ∷ us') →
    MatchOption p ((vs ≡ []) × (vs' ≡ [])) (λ y. vs ≡ y ∷ vs') →
    MatchOption o (MatchOption p (r ≡ true) (λ _. r ≡ false)) (λ x. (r ≡ false) × IfSome p (λ y. nat_eq x y ≡ false)) → r ≡ bytes_eq us vs
last us us' vs vs' None None r a b e = e ∙ sym (rw (a.0, b.0))
last us us' vs vs' None (Some y) r a b e = e ∙ sym (rw (a.0, b))
last us us' vs vs' (Some x) None r a b e = e.0 ∙ sym (rw (a, b.0))
last us us' vs vs' (Some x) (Some y) r a b e = e.0 ∙ sym (rw (a, b, e.1))

pub eq_from_lists : {S T : Type 0} (left : S → List ℕ) (right : T → List ℕ) (s : S) (t : T) (r : Bool) →
    ComparesItemsByEq (YieldsFirst left) (λ x y. y ≡ x) (YieldsFirst right) s t nat_eq r → r ≡ bytes_eq (left s) (right t)
eq_from_lists left right s t r (it, xs, ys, o, p, u, v, is, (s', came, then), (t', others, after), same, answers) =
    let one : left s ≡ xs ++ left s' = front left xs s s' came in
    let two : right t ≡ ys ++ right t' = ap right (sym is) ∙ front right ys it t' others in
    let equal : ys ≡ xs = same_from_all_zip (λ x y. nat_eq x y ≡ true) xs ys same (λ x y e. sym (eqb-true x y e)) in
    last (left s') (left u) (right t') (right v) o p r then after answers
    ∙ sym (past_front xs (left s') (right t'))
    ∙ sym (rw (one, two, equal))
