-- The Standard lays down one part only.
use Rattle.std.proofs.Common.{◌≡◌, ℕ, zero, suc, ◌+◌, ◌<◌, ◌≤◌, Bool, true, false, cond, eqb, ◌⊎◌, List, [], ◌∷◌, ◌++◌, length, take, Some, None, Option, sym, refl, ap, ◌∙◌, subst, inl, inr, one-add, arith}
use Rattle.std.specs.List.{common_prefix_len}
use Rattle.std.proofs.lemmas.List.{length-take-le}
use Rattle.std.proofs.lemmas.List.Sums.{common_prefix_len-le}
use Rattle.std.proofs.lemmas.Bool.{eqb-true, eqb-false, eq-eqb, cases_order}
use Rattle.characters.specs.declared.Range.{Range}
use Rattle.characters.specs.declared.Part.{Part}
use Rattle.characters.specs.declared.Part.TheVariants.{Character, Replaced}
use Rattle.characters.specs.Table.{table, EachLiesIn, lies_in, following_of}
use Rattle.characters.specs.Standard.{code_point_of, BeginsWellFormed, IsCharacter, IsReplaced, IsPart, Standard, Only}
use Rattle.characters.specs.Reader.{part_by, next_part, first_part}
use Rattle.characters.proofs.Rows.{common_in, inside, full, no_longer, picks, picked, table_ascends}
use Rattle.characters.proofs.Steps.{begins, standing, tail_of}

-- as many bytes as ranges
as_many : (s : List ℕ) (rs : List Range) → EachLiesIn s rs → length s ≡ length rs
as_many [] [] w = refl
as_many [] (r ∷ rs) w = absurd w
as_many (b ∷ s) [] w = absurd w
as_many (b ∷ s) (r ∷ rs) w = ap suc (as_many s rs w.1)

-- a front that follows the ranges meets them all
meets : (bs : List ℕ) (rs : List Range) (n : ℕ) → EachLiesIn (take n bs) rs → common_prefix_len lies_in bs rs ≡ length rs
meets [] [] n w = refl
meets (b ∷ bs) [] n w = refl
meets [] (r ∷ rs) zero w = absurd w
meets [] (r ∷ rs) (suc n) w = absurd w
meets (b ∷ bs) (r ∷ rs) zero w = absurd w
meets (b ∷ bs) (r ∷ rs) (suc n) w =
    let h = common_in b bs r rs (inside b r w.0.0 w.0.1) in
    let later = meets bs rs n w.1 in
    omega arith

clash : {rs : List Range} → None ≡ Some rs → ⊥
clash e = let z : ◌≡◌ {A = ℕ} 0 1 = cc in omega arith

-- a character
only_character : (b : ℕ) (bs : List ℕ) (c n : ℕ) (o : Option (List Range)) → following_of table b ≡ o → 1 ≤ n → n ≤ length (b ∷ bs) →
    IsCharacter (b ∷ bs) c n → Character c n ≡ part_by b bs o
unfolding part_by
only_character b bs c zero o e l m i = let z : ⊥ = omega arith in absurd z
only_character b bs c (suc n) None e l m i =
    let p = picks table table_ascends b (take n bs) i.well_formed in absurd (clash (sym e ∙ p.1))
only_character b bs c (suc n) (Some rs) e l m i =
    let w = tail_of b bs rs e (take n bs) i.well_formed in
    let size = as_many (take n bs) rs w in
    let long = length-take-le n bs (omega arith) in
    let h : n ≡ length rs = omega arith in
    let t = eq-eqb (common_prefix_len lies_in bs rs) (length rs) (meets bs rs n w) in
    let value : c ≡ code_point_of (b ∷ take (length rs) bs) = i.value ∙ ap (λ k. code_point_of (b ∷ take k bs)) h in
    let count : suc n ≡ 1 + length rs = omega arith in
    let part : Character c (suc n) ≡ Character (code_point_of (b ∷ take (length rs) bs)) (1 + length rs) = cc in
    part ∙ rw t

-- a replaced part
only_replaced : (b : ℕ) (bs : List ℕ) (n : ℕ) (o : Option (List Range)) → following_of table b ≡ o → 1 ≤ n → n ≤ length (b ∷ bs) →
    IsReplaced (b ∷ bs) n → Replaced n ≡ part_by b bs o
unfolding part_by
only_replaced b bs zero o e l m i = let z : ⊥ = omega arith in absurd z
only_replaced b bs (suc n) None e l m i = ap Replaced (go i.start)
  where
    go : BeginsWellFormed (take (suc n) (b ∷ bs)) ⊎ ((suc n ≡ 1) × (BeginsWellFormed (take 1 (b ∷ bs)) → ⊥)) → suc n ≡ 1
    go (inl g) = let p = picks table table_ascends b (take n bs ++ g.0) g.2 in absurd (clash (sym e ∙ p.1))
    go (inr h) = h.0
only_replaced b bs (suc n) (Some rs) e l m i = go (eqb (common_prefix_len lies_in bs rs) (length rs)) refl
  where
    count : common_prefix_len lies_in bs rs < length rs → n ≡ common_prefix_len lies_in bs rs
    count h = order (cases_order n (common_prefix_len lies_in bs rs)) i.start
      where
        order : (n ≡ common_prefix_len lies_in bs rs) ⊎ ((n < common_prefix_len lies_in bs rs) ⊎ (common_prefix_len lies_in bs rs < n)) →
            BeginsWellFormed (take (suc n) (b ∷ bs)) ⊎ ((suc n ≡ 1) × (BeginsWellFormed (take 1 (b ∷ bs)) → ⊥)) → n ≡ common_prefix_len lies_in bs rs
        order (inl q) g = q
        order (inr (inl q)) g =
            let most = common_prefix_len-le lies_in bs rs in
            absurd (i.longest (suc (common_prefix_len lies_in bs rs)) (omega arith) (omega arith) (begins b bs rs e h))
        order (inr (inr q)) (inl g) =
            absurd (no_longer bs rs n g.0 q (omega arith) (tail_of b bs rs e (take n bs ++ g.0) g.2))
        order (inr (inr q)) (inr g) = let one = g.0 in let z : ⊥ = omega arith in absurd z

    go : (t : Bool) → eqb (common_prefix_len lies_in bs rs) (length rs) ≡ t →
        Replaced (suc n) ≡ cond t (Character (code_point_of (b ∷ take (length rs) bs)) (1 + length rs)) (Replaced (1 + common_prefix_len lies_in bs rs))
    go true t =
        let h = eqb-true (common_prefix_len lies_in bs rs) (length rs) t in
        absurd (i.none (suc (length rs)) (picked table b (take (length rs) bs) rs e (full bs rs h)))
    go false t =
        let h = eqb-false (common_prefix_len lies_in bs rs) (length rs) t in
        let most = common_prefix_len-le lies_in bs rs in
        let same = count (omega arith) in
        ap Replaced (ap suc same ∙ sym (one-add (common_prefix_len lies_in bs rs)))

pub only : (s : List ℕ) (p : Part) → IsPart s p → first_part s ≡ Some p
unfolding next_part
only [] (Character c n) i = let a = i.not_empty in let b = i.inside in let z : ⊥ = omega arith in absurd z
only [] (Replaced n) i = let a = i.not_empty in let b = i.inside in let z : ⊥ = omega arith in absurd z
only (b ∷ bs) (Character c n) i = ap Some (sym (only_character b bs c n (following_of table b) refl i.not_empty i.inside i.kind))
only (b ∷ bs) (Replaced n) i = ap Some (sym (only_replaced b bs n (following_of table b) refl i.not_empty i.inside i.kind))

-- So the part that the definition has is the Standard's, and no other is.
pub standard_and_only : (s : List ℕ) (r : Option Part) → r ≡ first_part s → Standard s r × Only s r
standard_and_only s r v = (subst (Standard s) (sym v) (standing s), λ p i. v ∙ only s p i)
