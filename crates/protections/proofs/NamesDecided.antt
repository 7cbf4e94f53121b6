-- The tests for names decide what the definitions say in words.
use Rattle.std.proofs.Common.{◌≡◌, ℕ, ◌-◌, ◌<◌, ◌≤◌, true, ◌&&◌, eqb, leb, List, [], ◌∷◌, ◌++◌, length, take, drop, Decides, sym, refl, ap, ◌∙◌, subst, arith}
use Rattle.std.specs.Char.{is_ascii_digit}
use Rattle.std.specs.List.{list_all, HoldsAt, Contains, AllByRecursion, list_any}
use Rattle.std.proofs.lemmas.List.{take_at, drop_at, take-append-drop, length-take, get_or_default}
use Rattle.std.proofs.lemmas.Bool.{eqb-true, eq-eqb, leb-true, le-leb, and_parts, false≢true}
use Rattle.std.proofs.lemmas.Bool.Decides.{Decides-by_or, Decides-like}
use Rattle.std.specs.Prelude.{bytes_eq}
use Rattle.protections.specs.Names.{short, has_digits, short_at, short_name, ShortName, is_listed}
use Rattle.protections.proofs.Equal.{bytes_eq-true, bytes_eq-refl}
use Rattle.protections.proofs.Short.{choices, choice}

-- a list of names holds the given one
pub is_listed-decides : (names : List (List ℕ)) (k : List ℕ) → Decides (is_listed names k) (Contains names k)
is_listed-decides names k =
    Decides-like (is_listed names k) (λ h. (h.0, h.1, h.2 k))
    (λ h. (h.0, h.1, λ d. get_or_default names h.0 d k h.1 ∙ h.2))
    (Decides-by_or (bytes_eq k) (λ n. n ≡ k) (list_any (bytes_eq k))
    (λ n. (λ e. sym (bytes_eq-true k n e), λ e. subst (λ m. bytes_eq k m ≡ true) (sym e) (bytes_eq-refl k)))
    refl
    (λ _ _. refl)
    names)

-- digits

digits_from : (s : List ℕ) → list_all is_ascii_digit s ≡ true → AllByRecursion (λ d. (48 ≤ d) × (d ≤ 57)) s
digits_from [] e = tt
digits_from (b ∷ s) e =
    let parts = and_parts (is_ascii_digit b) (list_all is_ascii_digit s) e in
    let here = and_parts (leb 48 b) (leb b 57) parts.0 in
    ((leb-true 48 b here.0, leb-true b 57 here.1), digits_from s parts.1)

digits_to : (s : List ℕ) → AllByRecursion (λ d. (48 ≤ d) × (d ≤ 57)) s → list_all is_ascii_digit s ≡ true
digits_to [] h = refl
digits_to (b ∷ s) h = rw (le-leb 48 b h.0.0, le-leb b 57 h.0.1, digits_to s h.1)

-- a tilde, a digit 1 to 9, so many digits

record Numbered (n : ℕ) (s : List ℕ) : Type 0 where
  first : ℕ
  digits : List ℕ
  is : s ≡ 126 ∷ first ∷ digits
  from_one : 49 ≤ first
  to_nine : first ≤ 57
  as_many : length digits ≡ n
  each : AllByRecursion (λ d. (48 ≤ d) × (d ≤ 57)) digits

numbered_from : (n : ℕ) (s : List ℕ) → has_digits n s ≡ true → Numbered n s
numbered_from n [] e = absurd (false≢true e)
numbered_from n (t ∷ []) e = absurd (false≢true e)
numbered_from n (t ∷ d ∷ ds) e =
    let one = and_parts (eqb t 126) (leb 49 d && leb d 57 && (eqb (length ds) n && list_all is_ascii_digit ds)) e in
    let two = and_parts (leb 49 d && leb d 57) (eqb (length ds) n && list_all is_ascii_digit ds) one.1 in
    let bounds = and_parts (leb 49 d) (leb d 57) two.0 in
    let three = and_parts (eqb (length ds) n) (list_all is_ascii_digit ds) two.1 in
    record {
      first = d;
      digits = ds;
      is = ap (λ x. x ∷ d ∷ ds) (eqb-true t 126 one.0);
      from_one = leb-true 49 d bounds.0;
      to_nine = leb-true d 57 bounds.1;
      as_many = eqb-true (length ds) n three.0;
      each = digits_from ds three.1;
    }

numbered_to : (n d : ℕ) (ds : List ℕ) → 49 ≤ d → d ≤ 57 → length ds ≡ n → AllByRecursion (λ d. (48 ≤ d) × (d ≤ 57)) ds →
    has_digits n (126 ∷ d ∷ ds) ≡ true
numbered_to n d ds a b l h = rw (le-leb 49 d a, le-leb d 57 b, eq-eqb (length ds) n l, digits_to ds h)

-- short names

short_from : (k : List ℕ) (i : ℕ) → i ≤ 6 → short_at k i ≡ true → ShortName k
short_from k i h e =
    let both = and_parts (bytes_eq (take i k) (take i short)) (has_digits (6 - i) (drop i k)) e in
    let front = bytes_eq-true (take i k) (take i short) both.0 in
    let back = numbered_from (6 - i) (drop i k) both.1 in
    record {
      kept = i;
      at_most = h;
      first = back.first;
      from_one = back.from_one;
      to_nine = back.to_nine;
      digits = back.digits;
      as_many = back.as_many;
      each = back.each;
      whole = sym (take-append-drop i k) ∙ ap (λ x. x ++ drop i k) front ∙ ap (λ x. take i short ++ x) back.is;
    }

short_to : (k : List ℕ) (s : ShortName k) → short_at k s.kept ≡ true
short_to k s =
    let tail = 126 ∷ s.first ∷ s.digits in
    let l = s.at_most in
    let long : length (take s.kept short) ≡ s.kept = length-take s.kept short ∙ (omega arith) in
    let front : take s.kept k ≡ take s.kept short = ap (take s.kept) s.whole ∙ take_at (take s.kept short) tail s.kept long in
    let back : drop s.kept k ≡ tail = ap (drop s.kept) s.whole ∙ drop_at (take s.kept short) tail s.kept long in
    rw (front, back, bytes_eq-refl (take s.kept short), numbered_to (6 - s.kept) s.first s.digits s.from_one s.to_nine s.as_many s.each)

pub short_decides : (k : List ℕ) → Decides (short_name k) (ShortName k)
unfolding short_name
short_decides k = (λ e. from (d.0 e), λ s. d.1 (to s))
  where
    d : Decides (list_any (short_at k) choices) ((i : ℕ) × (i < 7) × HoldsAt (λ n. short_at k n ≡ true) choices i)
    d = Decides-by_or (short_at k) (λ n. short_at k n ≡ true) (list_any (short_at k)) (λ n. (λ e. e, λ e. e)) refl (λ _ _. refl) choices

    from : ((i : ℕ) × (i < 7) × HoldsAt (λ n. short_at k n ≡ true) choices i) → ShortName k
    from f = let l = f.1 in short_from k f.0 (omega arith) (sym (ap (short_at k) (choice f.0 l)) ∙ f.2 0)

    to : ShortName k → (i : ℕ) × (i < 7) × HoldsAt (λ n. short_at k n ≡ true) choices i
    to s =
        let m = s.at_most in
        let l : s.kept < 7 = omega arith in
        (s.kept, l, λ d. ap (short_at k) (get_or_default choices s.kept d 0 l ∙ choice s.kept l) ∙ short_to k s)

-- a test for one number finds it
pub list_any-contains : (s : List ℕ) (b : ℕ) → Decides (list_any (λ x. eqb x b) s) (Contains s b)
list_any-contains s b =
    Decides-like (list_any (λ x. eqb x b) s) (λ h. (h.0, h.1, h.2 b))
    (λ h. (h.0, h.1, λ d. get_or_default s h.0 d b h.1 ∙ h.2))
    (Decides-by_or (λ x. eqb x b) (λ x. x ≡ b) (list_any (λ x. eqb x b)) (λ x. (eqb-true x b, eq-eqb x b)) refl (λ _ _. refl) s)
