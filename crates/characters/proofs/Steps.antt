-- The part at the front of a byte string is the one that the Standard lays down.
use Rattle.std.proofs.Common.{◌≡◌, ℕ, zero, suc, ◌+◌, ◌-◌, ◌<◌, ◌≤◌, Bool, true, false, cond, eqb, List, [], ◌∷◌, ◌++◌, map, length, take, drop, Some, None, Option, sym, refl, ap, ◌∙◌, subst, inl, inr, one-add, arith, length-drop}
use Rattle.std.specs.Char.{IsScalar}
use Rattle.std.specs.List.{flat_map, common_prefix_len}
use Rattle.std.proofs.lemmas.List.{length-map, take-append-drop, take_rest}
use Rattle.std.proofs.lemmas.List.Sums.{common_prefix_len-le}
use Rattle.std.proofs.lemmas.Bool.Decides.{nat_tests}
use Rattle.std.proofs.lemmas.Bool.{eqb-true, eqb-false, eq-eqb, ne_eqb}
use Rattle.characters.specs.declared.Range.{Range}
use Rattle.characters.specs.declared.Part.{Part}
use Rattle.characters.specs.declared.Part.TheVariants.{Character, Replaced}
use Rattle.characters.specs.Table.{Row, table, EachLiesIn, Follows, SomeRow, WellFormed, lies_in, following_of}
use Rattle.characters.specs.Standard.{code_point_of, BeginsWellFormed, IsOfRow, IsCharacter, IsReplaced, IsPart, Standard, size, Reads, pieces}
use Rattle.characters.specs.Reader.{part_by, next_part, first_part, parts_up_to, parts, Whole}
use Rattle.characters.proofs.Rows.{full, goes_on, no_longer, none_full, picks, picked, opened, none_empty, table_ascends, table_open}

-- the same as bounds
abbrev Scalar : ℕ → Type 0
Scalar c = (c < 0x110000) × (0xD800 ≤ c → c ≤ 0xDFFF → ⊥)

scalar_from : (c : ℕ) → Scalar c → IsScalar c
scalar_from c h = let low = h.0 in let none = h.1 in grind (arith, nat_tests)

scalar : (s : List ℕ) → WellFormed s → Scalar (code_point_of s)
scalar [] w = absurd (none_empty table w)
scalar (a ∷ []) w = omega arith
scalar (a ∷ b ∷ []) w = omega arith
scalar (a ∷ b ∷ c ∷ []) w = omega arith
scalar (a ∷ b ∷ c ∷ d ∷ []) w = omega arith
scalar (a ∷ b ∷ c ∷ d ∷ e ∷ rest) w = omega arith

-- the code point of a sequence that follows a row is one of the row's

abbrev Lies : ℕ → Range → Type 0
Lies b r = (r.low ≤ b) × (b ≤ r.high)

abbrev Ranged : ℕ → ℕ → List ℕ → Type 0
Ranged p q s = (p ≤ code_point_of s) × (code_point_of s ≤ q)

one : (p q : ℕ) (x : Range) → ((a : ℕ) → Lies a x → Ranged p q (a ∷ [])) → (s : List ℕ) → EachLiesIn s (x ∷ []) → Ranged p q s
one p q x f [] w = absurd w
one p q x f (a ∷ []) w = f a w.0
one p q x f (a ∷ b ∷ s) w = absurd w.1

two : (p q : ℕ) (x y : Range) → ((a b : ℕ) → Lies a x → Lies b y → Ranged p q (a ∷ b ∷ [])) →
    (s : List ℕ) → EachLiesIn s (x ∷ y ∷ []) → Ranged p q s
two p q x y f [] w = absurd w
two p q x y f (a ∷ []) w = absurd w.1
two p q x y f (a ∷ b ∷ []) w = f a b w.0 w.1.0
two p q x y f (a ∷ b ∷ c ∷ s) w = absurd w.1.1

three : (p q : ℕ) (x y z : Range) → ((a b c : ℕ) → Lies a x → Lies b y → Lies c z → Ranged p q (a ∷ b ∷ c ∷ [])) →
    (s : List ℕ) → EachLiesIn s (x ∷ y ∷ z ∷ []) → Ranged p q s
three p q x y z f [] w = absurd w
three p q x y z f (a ∷ []) w = absurd w.1
three p q x y z f (a ∷ b ∷ []) w = absurd w.1.1
three p q x y z f (a ∷ b ∷ c ∷ []) w = f a b c w.0 w.1.0 w.1.1.0
three p q x y z f (a ∷ b ∷ c ∷ d ∷ s) w = absurd w.1.1.1

four : (p q : ℕ) (x y z u : Range) →
    ((a b c d : ℕ) → Lies a x → Lies b y → Lies c z → Lies d u → Ranged p q (a ∷ b ∷ c ∷ d ∷ [])) →
    (s : List ℕ) → EachLiesIn s (x ∷ y ∷ z ∷ u ∷ []) → Ranged p q s
four p q x y z u f [] w = absurd w
four p q x y z u f (a ∷ []) w = absurd w.1
four p q x y z u f (a ∷ b ∷ []) w = absurd w.1.1
four p q x y z u f (a ∷ b ∷ c ∷ []) w = absurd w.1.1.1
four p q x y z u f (a ∷ b ∷ c ∷ d ∷ []) w = f a b c d w.0 w.1.0 w.1.1.0 w.1.1.1.0
four p q x y z u f (a ∷ b ∷ c ∷ d ∷ e ∷ s) w = absurd w.1.1.1.1

abbrev Agree : List Row → Type 0
Agree [] = Unit {0}
Agree (r ∷ rows) = ((s : List ℕ) → Follows s r → Ranged r.points_from r.points_to s) × Agree rows

table_agrees : Agree table
table_agrees = (
  one _ _ _ (λ a x. omega arith),
  (
    two _ _ _ _ (λ a b x y. omega arith),
    (
      three _ _ _ _ _ (λ a b c x y z. omega arith),
      (
        three _ _ _ _ _ (λ a b c x y z. omega arith),
        (
          three _ _ _ _ _ (λ a b c x y z. omega arith),
          (
            three _ _ _ _ _ (λ a b c x y z. omega arith),
            (
              four _ _ _ _ _ _ (λ a b c d x y z u. omega arith),
              (
                four _ _ _ _ _ _ (λ a b c d x y z u. omega arith),
                (four _ _ _ _ _ _ (λ a b c d x y z u. omega arith), tt),
              ),
            ),
          ),
        ),
      ),
    ),
  ),
)

in_row : (rows : List Row) → Agree rows → (s : List ℕ) → SomeRow (Follows s) rows → SomeRow (IsOfRow s (code_point_of s)) rows
in_row [] g s w = w
in_row (r ∷ rows) g s (inl f) = let h = g.0 s f in inl (f, h.0, h.1)
in_row (r ∷ rows) g s (inr w) = inr (in_row rows g.1 s w)

clash : {rs : List Range} → None ≡ Some rs → ⊥
clash e = let z : ◌≡◌ {A = ℕ} 0 1 = cc in omega arith

same : {rs qs : List Range} → Some rs ≡ Some qs → rs ≡ qs
same e = cc

-- the first byte begins no well-formed sequence
module _ (b : ℕ) (bs : List ℕ) (e : following_of table b ≡ None) where
  nowhere : (m : ℕ) (more : List ℕ) → WellFormed (take (suc m) (b ∷ bs) ++ more) → ⊥
  nowhere m more w = let p = picks table table_ascends b (take m bs ++ more) w in clash (sym e ∙ p.1)

  alone : IsReplaced (b ∷ bs) 1
  alone = record { none = none; start = inr (refl, λ h. nowhere 0 h.0 h.2); longest = longest }
    where
      none : (m : ℕ) → WellFormed (take m (b ∷ bs)) → ⊥
      none zero w = none_empty table w
      none (suc m) w = let p = picks table table_ascends b (take m bs) w in clash (sym e ∙ p.1)

      longest : (m : ℕ) → 1 < m → m ≤ length (b ∷ bs) → BeginsWellFormed (take m (b ∷ bs)) → ⊥
      longest zero l h g = let z : ⊥ = omega arith in z
      longest (suc m) l h g = nowhere m g.0 g.2

-- the ranges that follow the first byte
module _ (b : ℕ) (bs : List ℕ) (rs : List Range) (e : following_of table b ≡ Some rs) where
  -- a sequence with that first byte goes on in those ranges
  pub tail_of : (t : List ℕ) → WellFormed (b ∷ t) → EachLiesIn t rs
  tail_of t w = let p = picks table table_ascends b t w in subst (EachLiesIn t) (same (sym p.1 ∙ e)) p.2

  whole : common_prefix_len lies_in bs rs ≡ length rs → IsCharacter (b ∷ bs) (code_point_of (b ∷ take (length rs) bs)) (suc (length rs))
  whole h =
      let w = picked table b (take (length rs) bs) rs e (full bs rs h) in
      record { well_formed = w; value = refl; row = in_row table table_agrees (b ∷ take (length rs) bs) w }

  low_ends : List ℕ
  low_ends = map (λ r. r.low) (drop (common_prefix_len lies_in bs rs) rs)

  some_left : common_prefix_len lies_in bs rs < length rs → 0 < length low_ends
  unfolding low_ends
  some_left h = simp (length-map, length-drop) (omega arith)

  pub begins : common_prefix_len lies_in bs rs < length rs → BeginsWellFormed (b ∷ take (common_prefix_len lies_in bs rs) bs)
  unfolding low_ends
  begins h =
      (low_ends, some_left h, picked table b (take (common_prefix_len lies_in bs rs) bs ++ low_ends) rs e (goes_on bs rs (opened table table_open b rs e)))

  shorter_start : common_prefix_len lies_in bs rs < length rs → IsReplaced (b ∷ bs) (suc (common_prefix_len lies_in bs rs))
  shorter_start h = record { none = none; start = inl (begins h); longest = longest }
    where
      none : (m : ℕ) → WellFormed (take m (b ∷ bs)) → ⊥
      none zero w = none_empty table w
      none (suc m) w = none_full bs rs m h (tail_of (take m bs) w)

      longest : (m : ℕ) → suc (common_prefix_len lies_in bs rs) < m → m ≤ length (b ∷ bs) → BeginsWellFormed (take m (b ∷ bs)) → ⊥
      longest zero l i g = let z : ⊥ = omega arith in z
      longest (suc m) l i g = no_longer bs rs m g.0 (omega arith) (omega arith) (tail_of (take m bs ++ g.0) g.2)

-- the part by the ranges is the Standard's
stands_by : (b : ℕ) (bs : List ℕ) (o : Option (List Range)) → following_of table b ≡ o → IsPart (b ∷ bs) (part_by b bs o)
unfolding part_by
stands_by b bs None e =
    record { not_empty = omega arith; inside = omega arith; scalar = refl; kind = alone b bs e }
stands_by b bs (Some rs) e = go (eqb (common_prefix_len lies_in bs rs) (length rs)) refl
  where
    go : (t : Bool) → eqb (common_prefix_len lies_in bs rs) (length rs) ≡ t →
        IsPart (b ∷ bs)
        (cond t (Character (code_point_of (b ∷ take (length rs) bs)) (1 + length rs)) (Replaced (1 + common_prefix_len lies_in bs rs)))
    go true t =
        let h = eqb-true (common_prefix_len lies_in bs rs) (length rs) t in
        let here = whole b bs rs e h in
        let most = common_prefix_len-le lies_in bs rs in
        record {
          not_empty = omega arith;
          inside = omega arith;
          scalar = scalar_from _ (scalar (b ∷ take (length rs) bs) here.well_formed);
          kind = subst (IsCharacter (b ∷ bs) (code_point_of (b ∷ take (length rs) bs))) (sym (one-add (length rs))) here;
        }
    go false t =
        let h = eqb-false (common_prefix_len lies_in bs rs) (length rs) t in
        let most = common_prefix_len-le lies_in bs rs in
        let l : common_prefix_len lies_in bs rs < length rs = omega arith in
        record {
          not_empty = omega arith;
          inside = omega arith;
          scalar = refl;
          kind = subst (IsReplaced (b ∷ bs)) (sym (one-add (common_prefix_len lies_in bs rs))) (shorter_start b bs rs e l);
        }

pub stands : (b : ℕ) (bs : List ℕ) → IsPart (b ∷ bs) (next_part b bs)
unfolding next_part
stands b bs = stands_by b bs (following_of table b) refl

pub standing : (s : List ℕ) → Standard s (first_part s)
standing [] = refl
standing (b ∷ bs) = stands b bs

-- what the code found, as the definition has it

pub at_none : (b : ℕ) (bs : List ℕ) → None ≡ following_of table b → Some (Replaced 1) ≡ first_part (b ∷ bs)
unfolding next_part part_by
at_none b bs e = ap (λ o. Some (part_by b bs o)) e

module _ (rs : List Range) (m : ℕ) where
  part_some : (b : ℕ) (bs : List ℕ) → m ≡ common_prefix_len lies_in bs rs → (t : Bool) → eqb m (length rs) ≡ t →
      part_by b bs (Some rs) ≡ cond t (Character (code_point_of (b ∷ take (length rs) bs)) (1 + length rs)) (Replaced (1 + m))
  unfolding part_by
  part_some b bs e t h = rw (← e, h)

  pub at_some : (b : ℕ) (bs : List ℕ) → Some rs ≡ following_of table b → m ≡ common_prefix_len lies_in bs rs → 1 + m ≡ 1 + length rs →
      (point : ℕ) → point ≡ code_point_of (take (1 + m) (b ∷ bs)) → Some (Character point (1 + m)) ≡ first_part (b ∷ bs)
  unfolding next_part
  at_some b bs e here t p q =
      let k : 1 + m ≡ suc (length rs) = omega arith in
      let spelled : p ≡ code_point_of (b ∷ take (length rs) bs) = subst (λ n. p ≡ code_point_of (take n (b ∷ bs))) k q in
      let part = part_some b bs here true (eq-eqb m (length rs) (omega arith)) in
      let fits : Character p (1 + m) ≡ Character (code_point_of (b ∷ take (length rs) bs)) (1 + length rs) = cc in
      ap Some (fits ∙ sym part ∙ ap (part_by b bs) e)

  pub at_part : (b : ℕ) (bs : List ℕ) → Some rs ≡ following_of table b → m ≡ common_prefix_len lies_in bs rs →
      (1 + m ≡ 1 + length rs → ⊥) → Some (Replaced (1 + m)) ≡ first_part (b ∷ bs)
  unfolding next_part
  at_part b bs e here t = ap Some (sym (part_some b bs here false (ne_eqb m (length rs) (omega arith))) ∙ ap (part_by b bs) e)

-- repeated steps

module _ (b : ℕ) (bs : List ℕ) where
  pub shorter : length (drop (size (next_part b bs)) (b ∷ bs)) ≤ length bs
  shorter = let p = stands b bs in simp length-drop (omega arith)

enough : (m n : ℕ) (s : List ℕ) → length s ≤ m → length s ≤ n → parts_up_to m s ≡ parts_up_to n s
unfolding parts_up_to
enough zero zero s h k = refl
enough zero (suc n) [] h k = refl
enough zero (suc n) (b ∷ bs) h k = let z : ⊥ = omega arith in absurd z
enough (suc m) zero [] h k = refl
enough (suc m) zero (b ∷ bs) h k = let z : ⊥ = omega arith in absurd z
enough (suc m) (suc n) [] h k = refl
enough (suc m) (suc n) (b ∷ bs) h k =
    let l = shorter b bs in
    ap (λ ps. next_part b bs ∷ ps) (enough m n (drop (size (next_part b bs)) (b ∷ bs)) (omega arith) (omega arith))

pub parts_nil : parts [] ≡ []
unfolding parts parts_up_to
parts_nil = refl

pub parts_cons : (b : ℕ) (bs : List ℕ) → parts (b ∷ bs) ≡ next_part b bs ∷ parts (drop (size (next_part b bs)) (b ∷ bs))
unfolding parts parts_up_to
parts_cons b bs =
    let l = shorter b bs in
    ap (λ ps. next_part b bs ∷ ps)
    (enough (length bs) (length (drop (size (next_part b bs)) (b ∷ bs))) (drop (size (next_part b bs)) (b ∷ bs)) (omega arith) (omega arith))

reads_up_to : (n : ℕ) (s : List ℕ) → length s ≤ n → Reads s (parts_up_to n s)
unfolding parts_up_to
reads_up_to zero [] h = refl
reads_up_to zero (b ∷ bs) h = let z : ⊥ = omega arith in absurd z
reads_up_to (suc n) [] h = refl
reads_up_to (suc n) (b ∷ bs) h =
    let l = shorter b bs in (stands b bs, reads_up_to n (drop (size (next_part b bs)) (b ∷ bs)) (omega arith))

-- any parts that stand one after the other down to the end take the whole
join : (ps : List Part) (s : List ℕ) → Reads s ps → flat_map (λ x. x) (pieces s ps) ≡ s
join [] s h = sym h
join (p ∷ ps) s h = ap (λ t. take (size p) s ++ t) (join ps (drop (size p) s) h.1) ∙ take-append-drop (size p) s

pub whole_law : (s : List ℕ) → Whole s
unfolding parts
whole_law s =
    let r = reads_up_to (length s) s (omega arith) in record { reads = r; joins = join (parts_up_to (length s) s) s r }

-- one part off the front: the checker reads `&rest[n..]` as below

pub took : (s : List ℕ) (p : Part) (n : ℕ) → Some p ≡ first_part s → n ≡ size p →
    (parts s ≡ p ∷ parts (take (length s - n) (drop n s))) × (take (length s - n) (drop n s) ≡ drop (size p) s)
took [] p n e f = let z : ◌≡◌ {A = ℕ} 0 1 = cc in let y : ⊥ = omega arith in absurd y
took (b ∷ bs) p n e f =
    let same_part : p ≡ next_part b bs = cc in
    let rest = take_rest (b ∷ bs) n in
    let left : take (length (b ∷ bs) - n) (drop n (b ∷ bs)) ≡ drop (size p) (b ∷ bs) = rest ∙ ap (λ k. drop k (b ∷ bs)) f in (
      subst (λ q. parts (b ∷ bs) ≡ q ∷ parts (drop (size q) (b ∷ bs))) (sym same_part) (parts_cons b bs)
          ∙ ap (λ t. p ∷ parts t) (sym left),
      left,
    )
