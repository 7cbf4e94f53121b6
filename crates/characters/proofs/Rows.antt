-- What the table and the test of a sequence against ranges say of one another.
use Rattle.std.proofs.Common.{◌≡◌, ℕ, zero, suc, ◌+◌, ◌<◌, ◌≤◌, Bool, true, false, cond, ◌⊎◌, List, [], ◌∷◌, ◌++◌, map, length, take, drop, Some, sym, refl, ap, ◌∙◌, subst, inl, inr, one-add, arith}
use Rattle.std.specs.List.{common_prefix_len, prefix_len, zip}
use Rattle.std.proofs.lemmas.Bool.Decides.{nat_tests}
use Rattle.characters.specs.declared.Range.{Range}
use Rattle.characters.specs.Table.{Row, table, EachLiesIn, Follows, SomeRow, lies_in, following_of}

-- the test of a range, both ways
pub inside : (b : ℕ) (r : Range) → r.low ≤ b → b ≤ r.high → lies_in b r ≡ true
inside b r p q = grind (arith, nat_tests)

pub inside_from : (b : ℕ) (r : Range) → lies_in b r ≡ true → (r.low ≤ b) × (b ≤ r.high)
inside_from b r e = (grind (arith, nat_tests), grind (arith, nat_tests))

pub outside : (b : ℕ) (r : Range) → r.high < b → lies_in b r ≡ false
outside b r p = grind (arith, nat_tests)

-- a range that holds a byte at all
abbrev pub Open : List Range → Type 0
Open [] = Unit {0}
Open (r ∷ rs) = (r.low ≤ r.high) × Open rs

-- how far the bytes lie in the ranges, one step on
pub common_in : (b : ℕ) (bs : List ℕ) (r : Range) (rs : List Range) → lies_in b r ≡ true →
    common_prefix_len lies_in (b ∷ bs) (r ∷ rs) ≡ 1 + common_prefix_len lies_in bs rs
common_in b bs r rs e = rw e

pub common_out : (b : ℕ) (bs : List ℕ) (r : Range) (rs : List Range) → lies_in b r ≡ false →
    common_prefix_len lies_in (b ∷ bs) (r ∷ rs) ≡ 0
common_out b bs r rs e = rw e

-- each range has its byte: the front follows them
pub full : (bs : List ℕ) (rs : List Range) → common_prefix_len lies_in bs rs ≡ length rs → EachLiesIn (take (length rs) bs) rs
full bs [] e = tt
full [] (r ∷ rs) e = let z : ⊥ = omega arith in absurd z
full (b ∷ bs) (r ∷ rs) e = go (lies_in b r) refl (full bs rs)
  where
    go : (t : Bool) → lies_in b r ≡ t → (common_prefix_len lies_in bs rs ≡ length rs → EachLiesIn (take (length rs) bs) rs) →
        ((r.low ≤ b) × (b ≤ r.high)) × EachLiesIn (take (length rs) bs) rs
    go true w later = (inside_from b r w, later (let h = common_in b bs r rs w in omega arith))
    go false w later = let h = common_out b bs r rs w in let z : ⊥ = omega arith in absurd z

-- the front that lies in its ranges goes on to a sequence that follows all
abbrev pub Fills : List ℕ → List Range → ℕ → Type 0
Fills bs rs n = EachLiesIn (take n bs ++ map (λ r. r.low) (drop n rs)) rs

lows : (rs : List Range) → Open rs → EachLiesIn (map (λ r. r.low) rs) rs
lows [] o = tt
lows (r ∷ rs) o = ((omega arith, o.0), lows rs o.1)

pub goes_on : (bs : List ℕ) (rs : List Range) → Open rs →
    Fills bs rs (common_prefix_len lies_in bs rs)
goes_on [] rs o = lows rs o
goes_on (b ∷ bs) [] o = tt
goes_on (b ∷ bs) (r ∷ rs) o = go (lies_in b r) refl (goes_on bs rs o.1)
  where
    go : (t : Bool) → lies_in b r ≡ t → Fills bs rs (common_prefix_len lies_in bs rs) →
        Fills (b ∷ bs) (r ∷ rs) (common_prefix_len lies_in (b ∷ bs) (r ∷ rs))
    go true w later =
        subst (Fills (b ∷ bs) (r ∷ rs)) (sym (common_in b bs r rs w ∙ one-add (common_prefix_len lies_in bs rs))) (inside_from b r w, later)
    go false w later = subst (Fills (b ∷ bs) (r ∷ rs)) (sym (common_out b bs r rs w)) (lows (r ∷ rs) o)

-- no longer front is a start of a sequence that follows the ranges
pub no_longer : (bs : List ℕ) (rs : List Range) (n : ℕ) (more : List ℕ) → common_prefix_len lies_in bs rs < n → n ≤ length bs →
    EachLiesIn (take n bs ++ more) rs → ⊥
no_longer bs rs zero more l m f = let z : ⊥ = omega arith in z
no_longer [] rs (suc n) more l m f = let z : ⊥ = omega arith in z
no_longer (b ∷ bs) [] (suc n) more l m f = f
no_longer (b ∷ bs) (r ∷ rs) (suc n) more l m f =
    let h = common_in b bs r rs (inside b r f.0.0 f.0.1) in
    no_longer bs rs n more (omega arith) (omega arith) f.1

-- a range lacks its byte: no front follows the ranges
pub none_full : (bs : List ℕ) (rs : List Range) (n : ℕ) → common_prefix_len lies_in bs rs < length rs → EachLiesIn (take n bs) rs → ⊥
none_full bs [] n l f = let z : ⊥ = omega arith in z
none_full [] (r ∷ rs) zero l f = f
none_full [] (r ∷ rs) (suc n) l f = f
none_full (b ∷ bs) (r ∷ rs) zero l f = f
none_full (b ∷ bs) (r ∷ rs) (suc n) l f =
    let h = common_in b bs r rs (inside b r f.0.0 f.0.1) in
    none_full bs rs n (omega arith) f.1

-- the rows' first ranges ascend

abbrev pub Above : ℕ → List Row → Type 0
Above n [] = Unit {0}
Above n (r ∷ rows) = (n < r.first.low) × Above n rows

abbrev pub Ascend : List Row → Type 0
Ascend [] = Unit {0}
Ascend (r ∷ rows) = Above r.first.high rows × Ascend rows

abbrev pub AllOpen : List Row → Type 0
AllOpen [] = Unit {0}
AllOpen (r ∷ rows) = Open r.rest × AllOpen rows

pub table_ascends : Ascend table
table_ascends = (omega arith, (omega arith, (omega arith, (omega arith, (omega arith, (omega arith, (omega arith, (omega arith, (tt, tt)))))))))

pub table_open : AllOpen table
table_open = omega arith

above : (n : ℕ) (rows : List Row) (b : ℕ) (bs : List ℕ) → Above n rows → SomeRow (Follows (b ∷ bs)) rows → n < b
above n [] b bs a w = absurd w
above n (r ∷ rows) b bs a (inl f) = omega arith
above n (r ∷ rows) b bs a (inr w) = above n rows b bs a.1 w

-- a sequence that follows a row: the row is the one that its first byte picks
pub picks : (rows : List Row) → Ascend rows → (b : ℕ) (bs : List ℕ) → SomeRow (Follows (b ∷ bs)) rows →
    (rs : List Range) × (following_of rows b ≡ Some rs) × EachLiesIn bs rs
picks [] a b bs w = absurd w
picks (r ∷ rows) a b bs (inl f) = (r.rest, rw (inside b r.first f.0.0 f.0.1), f.1)
picks (r ∷ rows) a b bs (inr w) =
    let later = picks rows a.1 b bs w in
    let e = outside b r.first (above r.first.high rows b bs a.0 w) in
    (later.0, rw e later.1, later.2)

pub none_empty : (rows : List Row) → SomeRow (Follows []) rows → ⊥
none_empty [] w = w
none_empty (r ∷ rows) (inl f) = f
none_empty (r ∷ rows) (inr w) = none_empty rows w

some_same : {x y : List Range} → Some x ≡ Some y → x ≡ y
some_same e = cc

-- and the other way round
pub picked : (rows : List Row) (b : ℕ) (bs : List ℕ) (rs : List Range) → following_of rows b ≡ Some rs → EachLiesIn bs rs →
    SomeRow (Follows (b ∷ bs)) rows
picked [] b bs rs e f = let z : ◌≡◌ {A = ℕ} 0 1 = cc in let y : ⊥ = omega arith in absurd y
picked (r ∷ rows) b bs rs e f = go (lies_in b r.first) refl (λ later. picked rows b bs rs later f)
  where
    go : (t : Bool) → lies_in b r.first ≡ t → (following_of rows b ≡ Some rs → SomeRow (Follows (b ∷ bs)) rows) →
        Follows (b ∷ bs) r ⊎ SomeRow (Follows (b ∷ bs)) rows
    go true w later = inl (inside_from b r.first w, subst (EachLiesIn bs) (sym (some_same (rw w at e))) f)
    go false w later = inr (later (rw w at e))

pub opened : (rows : List Row) → AllOpen rows → (b : ℕ) (rs : List Range) → following_of rows b ≡ Some rs → Open rs
opened [] o b rs e = let z : ◌≡◌ {A = ℕ} 0 1 = cc in let y : ⊥ = omega arith in absurd y
opened (r ∷ rows) o b rs e = go (lies_in b r.first) refl (opened rows o.1 b rs)
  where
    go : (t : Bool) → lies_in b r.first ≡ t → (following_of rows b ≡ Some rs → Open rs) → Open rs
    go true w later = subst Open (some_same (rw w at e)) o.0
    go false w later = later (rw w at e)

-- a byte beside its range lies in it
abbrev pub meets : ℕ × Range → Bool
meets p = lies_in p.0 p.1

-- how many of such pairs do, from the front on
pub common_prefix_zip : (bs : List ℕ) (rs : List Range) → prefix_len meets (zip bs rs) ≡ common_prefix_len lies_in bs rs
common_prefix_zip [] rs = refl
common_prefix_zip (b ∷ bs) [] = refl
common_prefix_zip (b ∷ bs) (r ∷ rs) = ap (λ n. cond (lies_in b r) (1 + n) 0) (common_prefix_zip bs rs)
