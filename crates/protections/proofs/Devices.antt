-- The names of devices, by their first three letters.
use Rattle.std.proofs.Common.{◌≡◌, ℕ, ◌-◌, ◌<◌, ◌≤◌, Bool, true, false, cond, not, ◌&&◌, ◌||◌, eqb, ltb, leb, ◌⊎◌, List, [], ◌∷◌, map, length, get_or, take, drop, codes, Decides, filter, sym, refl, ap, ◌∙◌, subst, inl, inr, arith}
use Rattle.std.specs.Char.{to_ascii_lowercase, char_set_contains}
use Rattle.std.specs.List.{Contains, AllByRecursion, list_any}
use Rattle.std.proofs.lemmas.List.{length-map, length-take, take_all}
use Rattle.std.proofs.lemmas.Slice.{first_rest}
use Rattle.std.proofs.lemmas.Bool.{ne_eqb, or_parts, not-false, leb-true}
use Rattle.std.proofs.lemmas.Bool.Decides.{nat_tests}
use Rattle.std.specs.Prelude.{bytes_eq}
use Rattle.protections.specs.NameEnds.{ended_key, is_ended_key, is_one_digit, continuations}
use Rattle.protections.specs.Keys.{device_key}
use Rattle.protections.specs.Names.{devices, is_listed}
use Rattle.protections.specs.Rules.{is_device}
use Rattle.protections.proofs.Equal.{bytes_eq-true}
use Rattle.protections.proofs.EndedKey.{key_nil, rest_other, name_rest, name_more}
use Rattle.protections.proofs.NamesDecided.{is_listed-decides}

-- three letters

other : (a b c x y z : ℕ) → (a ≡ x → b ≡ y → c ≡ z → ⊥) → bytes_eq (a ∷ b ∷ c ∷ []) (x ∷ y ∷ z ∷ []) ≡ false
other a b c x y z h = go (bytes_eq (a ∷ b ∷ c ∷ []) (x ∷ y ∷ z ∷ [])) refl
  where
    go : (t : Bool) → bytes_eq (a ∷ b ∷ c ∷ []) (x ∷ y ∷ z ∷ []) ≡ t → bytes_eq (a ∷ b ∷ c ∷ []) (x ∷ y ∷ z ∷ []) ≡ false
    go false e = e
    go true e =
        let same = bytes_eq-true (a ∷ b ∷ c ∷ []) (x ∷ y ∷ z ∷ []) e in
        let first : a ≡ x = cc in
        let second : b ≡ y = cc in
        let third : c ≡ z = cc in
        absurd (h first second third)

kept_none : (p : List ℕ → Bool) (ns : List (List ℕ)) → AllByRecursion (λ n. p n ≡ false) ns → filter p ns ≡ []
kept_none p [] h = refl
kept_none p (n ∷ ns) h = rw h.0 (kept_none p ns h.1)

-- the first letters of a device
abbrev pub DeviceLetters : ℕ → ℕ → ℕ → Type 0
DeviceLetters a b c =
    (((a ≡ 97) × (b ≡ 117) × (c ≡ 120)) ⊎ (((a ≡ 110) × (b ≡ 117) × (c ≡ 108)) ⊎ ((a ≡ 112) × (b ≡ 114) × (c ≡ 110))))
    ⊎ (((a ≡ 99) × (b ≡ 111) × (c ≡ 110)) ⊎ (((a ≡ 99) × (b ≡ 111) × (c ≡ 109)) ⊎ ((a ≡ 108) × (b ≡ 112) × (c ≡ 116))))

no_letters : (a b c : ℕ) → (DeviceLetters a b c → ⊥) → [] ≡ continuations devices (a ∷ b ∷ c ∷ [])
unfolding continuations
no_letters a b c h =
    let o1 = other a b c 97 117 120 (λ x y z. h (inl (inl (x, y, z)))) in
    let o2 = other a b c 110 117 108 (λ x y z. h (inl (inr (inl (x, y, z))))) in
    let o3 = other a b c 112 114 110 (λ x y z. h (inl (inr (inr (x, y, z))))) in
    let o4 = other a b c 99 111 110 (λ x y z. h (inr (inl (x, y, z)))) in
    let o5 = other a b c 99 111 109 (λ x y z. h (inr (inr (inl (x, y, z))))) in
    let o6 = other a b c 108 112 116 (λ x y z. h (inr (inr (inr (x, y, z))))) in
    sym (ap (map (drop 3)) (kept_none (λ n. bytes_eq (a ∷ b ∷ c ∷ []) (take 3 n)) devices
    (o1, (o2, (o3, (o4, (o4, (o4, (o5, (o5, (o5, (o5, (o5, (o5, (o5, (o5, (o5, (o6, (o6, (o6, (o6, (o6, (o6, (o6, (o6, (o6, (o6, tt)))))))))))))))))))))))))))

-- names after three letters

abbrev Long : List ℕ → Bool
Long n = leb 3 (length n)

all_true : (p : List ℕ → Bool) (ns : List (List ℕ)) → list_any (λ n. not (p n)) ns ≡ false → AllByRecursion (λ n. p n ≡ true) ns
all_true p [] h = tt
all_true p (n ∷ ns) h =
    let both = or_parts (not (p n)) (list_any (λ n. not (p n)) ns) h in (not-false (p n) both.0, all_true p ns both.1)

kept_more : (q : Bool) (n k : List ℕ) (ns : List (List ℕ)) →
    is_listed (map (drop 3) (cond q (n ∷ ns) ns)) k ≡ ((q && bytes_eq k (drop 3 n)) || is_listed (map (drop 3) ns) k)
kept_more true n k ns = refl
kept_more false n k ns = refl

regroup : (x y z e : Bool) → (x && (y && (z && e))) ≡ ((x && (y && (z && true))) && e)
regroup true true true e = refl
regroup true true false e = refl
regroup true false z e = refl
regroup false y z e = refl

module _ (stops fillers : List ℕ) where
  module _ (stops_ignore_case : (b : ℕ) → char_set_contains stops (to_ascii_lowercase b) ≡ char_set_contains stops b) (fillers_ignore_case : (b : ℕ) → char_set_contains fillers (to_ascii_lowercase b) ≡ char_set_contains fillers b) (a b c : ℕ)
      (t : List ℕ) where
    one_name : (n : List ℕ) → is_ended_key stops fillers n ≡ true → Long n ≡ true →
        bytes_eq (ended_key stops fillers (a ∷ b ∷ c ∷ t)) n
        ≡ (bytes_eq (to_ascii_lowercase a ∷ to_ascii_lowercase b ∷ to_ascii_lowercase c ∷ []) (take 3 n) && bytes_eq (ended_key stops fillers t) (drop 3 n))
    one_name [] h l = let z = leb-true 3 0 l in let w : ⊥ = omega arith in absurd w
    one_name (x ∷ []) h l = let z = leb-true 3 1 l in let w : ⊥ = omega arith in absurd w
    one_name (x ∷ y ∷ []) h l = let z = leb-true 3 2 l in let w : ⊥ = omega arith in absurd w
    one_name (x ∷ y ∷ z ∷ n) h l =
        let second = name_rest stops fillers x (y ∷ z ∷ n) h in
        let third = name_rest stops fillers y (z ∷ n) second in
        name_more stops fillers stops_ignore_case fillers_ignore_case a x (b ∷ c ∷ t) (y ∷ z ∷ n) h
        ∙ ap (λ e. eqb (to_ascii_lowercase a) x && e) (name_more stops fillers stops_ignore_case fillers_ignore_case b y (c ∷ t) (z ∷ n) second)
        ∙ ap (λ e. eqb (to_ascii_lowercase a) x && (eqb (to_ascii_lowercase b) y && e)) (name_more stops fillers stops_ignore_case fillers_ignore_case c z t n third)
        ∙ regroup (eqb (to_ascii_lowercase a) x) (eqb (to_ascii_lowercase b) y) (eqb (to_ascii_lowercase c) z) (bytes_eq (ended_key stops fillers t) n)

    after_three : (names : List (List ℕ)) → AllByRecursion (λ n. is_ended_key stops fillers n ≡ true) names → AllByRecursion (λ n. Long n ≡ true) names →
        is_listed names (ended_key stops fillers (a ∷ b ∷ c ∷ t)) ≡ is_listed (continuations names (to_ascii_lowercase a ∷ to_ascii_lowercase b ∷ to_ascii_lowercase c ∷ [])) (ended_key stops fillers t)
    unfolding continuations
    after_three [] h l = refl
    after_three (n ∷ ns) h l =
        let rest = after_three ns h.1 l.1 in
        let q = bytes_eq (to_ascii_lowercase a ∷ to_ascii_lowercase b ∷ to_ascii_lowercase c ∷ []) (take 3 n) in
        ap (λ e. e || is_listed ns (ended_key stops fillers (a ∷ b ∷ c ∷ t))) (one_name n h.0 l.0)
        ∙ ap (λ e. (q && bytes_eq (ended_key stops fillers t) (drop 3 n)) || e) rest
        ∙ sym (kept_more q n (ended_key stops fillers t) (filter (λ n. bytes_eq (to_ascii_lowercase a ∷ to_ascii_lowercase b ∷ to_ascii_lowercase c ∷ []) (take 3 n)) ns))

few : (k : List ℕ) (names : List (List ℕ)) → length k < 3 → AllByRecursion (λ n. Long n ≡ true) names → is_listed names k ≡ false
few k [] h l = refl
few k (n ∷ ns) h l = go (bytes_eq k n) refl (few k ns h l.1)
  where
    go : (t : Bool) → bytes_eq k n ≡ t → is_listed ns k ≡ false → (bytes_eq k n || is_listed ns k) ≡ false
    go false e f = rw (e, f)
    go true e f =
        let long = leb-true 3 (length n) l.0 in
        let same = ap length (bytes_eq-true k n e) in
        let z : ⊥ = omega arith in
        absurd z

-- the list of devices

device_names : AllByRecursion (λ n. is_ended_key (codes ".:") (codes " ") n ≡ true) devices
unfolding is_ended_key
device_names = all_true (is_ended_key (codes ".:") (codes " ")) devices refl

long_names : AllByRecursion (λ n. Long n ≡ true) devices
long_names = all_true Long devices refl

stop_lower : (b : ℕ) → char_set_contains (codes ".:") (to_ascii_lowercase b) ≡ char_set_contains (codes ".:") b
stop_lower b = grind (arith, nat_tests)

space_lower : (b : ℕ) → char_set_contains (codes " ") (to_ascii_lowercase b) ≡ char_set_contains (codes " ") b
space_lower b = grind (arith, nat_tests)

abbrev Key : List ℕ → List ℕ
Key s = ended_key (codes ".:") (codes " ") s

-- what follows the three letters

with_letters : (a b c x y z : ℕ) (t : List ℕ) (r : Bool) → a ≡ x → b ≡ y → c ≡ z → r ≡ is_listed (continuations devices (x ∷ y ∷ z ∷ [])) (Key t) →
    r ≡ is_listed (continuations devices (a ∷ b ∷ c ∷ [])) (Key t)
with_letters a b c x y z t r p q s e = e ∙ sym (rw (p, q, s))

without_letters : (a b c : ℕ) (t : List ℕ) → (DeviceLetters a b c → ⊥) → false ≡ is_listed (continuations devices (a ∷ b ∷ c ∷ [])) (Key t)
without_letters a b c t h = ap (λ ns. is_listed ns (Key t)) (no_letters a b c h)

three_only : (ls : List ℕ) → length ls ≡ 3 → get_or ls 0 0 ∷ get_or ls 1 0 ∷ get_or ls 2 0 ∷ [] ≡ ls
three_only [] h = let z : ⊥ = omega arith in absurd z
three_only (a ∷ []) h = let z : ⊥ = omega arith in absurd z
three_only (a ∷ b ∷ []) h = let z : ⊥ = omega arith in absurd z
three_only (a ∷ b ∷ c ∷ []) h = refl
three_only (a ∷ b ∷ c ∷ d ∷ ls) h = let z : ⊥ = omega arith in absurd z

module _ (ls t : List ℕ) (l : length ls ≡ 3) where
  pub with_list : (x y z : ℕ) (r : Bool) → get_or ls 0 0 ≡ x → get_or ls 1 0 ≡ y → get_or ls 2 0 ≡ z → r ≡ is_listed (continuations devices (x ∷ y ∷ z ∷ [])) (Key t) →
      r ≡ is_listed (continuations devices ls) (Key t)
  with_list x y z r p q s e =
      with_letters _ _ _ x y z t r p q s e ∙ ap (λ w. is_listed (continuations devices w) (Key t)) (three_only ls l)

  pub without_list : (DeviceLetters (get_or ls 0 0) (get_or ls 1 0) (get_or ls 2 0) → ⊥) → false ≡ is_listed (continuations devices ls) (Key t)
  without_list h = without_letters _ _ _ t h ∙ ap (λ w. is_listed (continuations devices w) (Key t)) (three_only ls l)

pub alone : (t : List ℕ) → bytes_eq (Key t) [] ≡ is_listed ([] ∷ []) (Key t)
alone t = sym (or_none (bytes_eq (Key t) []))
  where
    or_none : (x : Bool) → (x || false) ≡ x
    or_none true = refl
    or_none false = refl

-- one of three, and the others not

first_alone : (x y z : Bool) → y ≡ false → z ≡ false → x ≡ (x || (y || (z || false)))
first_alone true y z p q = refl
first_alone false y z p q = sym (rw (p, q))

second_alone : (x y z : Bool) → x ≡ false → z ≡ false → y ≡ (x || (y || (z || false)))
second_alone x true z p q = sym (rw p)
second_alone x false z p q = sym (rw (p, q))

third_alone : (x y z : Bool) → x ≡ false → y ≡ false → z ≡ (x || (y || (z || false)))
third_alone x y true p q = sym (rw (p, q))
third_alone x y false p q = sym (rw (p, q))

module _ (s : List ℕ) where
  -- the first byte is another
  no_name : (x : ℕ) (w : List ℕ) → is_ended_key (codes ".:") (codes " ") (x ∷ w) ≡ true → (1 ≤ length s → to_ascii_lowercase (get_or s 0 0) ≡ x → ⊥) →
      bytes_eq (Key s) (x ∷ w) ≡ false
  no_name x w h n = go s n
    where
      go : (s : List ℕ) → (1 ≤ length s → to_ascii_lowercase (get_or s 0 0) ≡ x → ⊥) → bytes_eq (Key s) (x ∷ w) ≡ false
      go [] n = rw (key_nil (codes ".:") (codes " "))
      go (b ∷ t) n = name_more (codes ".:") (codes " ") stop_lower space_lower b x t w h ∙ rw (ne_eqb (to_ascii_lowercase b) x (n (omega arith)))

  -- the first byte counts
  no_end : (x : ℕ) → 1 ≤ length s → to_ascii_lowercase (get_or s 0 0) ≡ x → char_set_contains (codes " ") x ≡ false → char_set_contains (codes ".:") x ≡ false →
      bytes_eq (Key s) [] ≡ false
  no_end x l e f g = go s l e
    where
      go : (s : List ℕ) → 1 ≤ length s → to_ascii_lowercase (get_or s 0 0) ≡ x → bytes_eq (Key s) [] ≡ false
      go [] l e = let z : ⊥ = omega arith in absurd z
      go (b ∷ t) l e =
          rest_other (codes ".:") (codes " ") b t (sym (space_lower b) ∙ ap (char_set_contains (codes " ")) e ∙ f)
          ∙ sym (stop_lower b)
          ∙ ap (char_set_contains (codes ".:")) e
          ∙ g

  module _ (r : Bool) where
    pub console : (1 ≤ length s → to_ascii_lowercase (get_or s 0 0) ≡ 105 → ⊥) → (1 ≤ length s → to_ascii_lowercase (get_or s 0 0) ≡ 111 → ⊥) → r ≡ bytes_eq (Key s) [] →
        r ≡ is_listed (continuations devices (codes "con")) (Key s)
    unfolding continuations is_ended_key
    console m n e = e ∙ first_alone (bytes_eq (Key s) []) (bytes_eq (Key s) (codes "in$")) (bytes_eq (Key s) (codes "out$")) (no_name 105 (codes "n$") refl m) (no_name 111 (codes "ut$") refl n)

    pub console_in : 1 ≤ length s → to_ascii_lowercase (get_or s 0 0) ≡ 105 → r ≡ bytes_eq (Key s) (codes "in$") → r ≡ is_listed (continuations devices (codes "con")) (Key s)
    unfolding continuations is_ended_key
    console_in l f e =
        e
        ∙ second_alone (bytes_eq (Key s) []) (bytes_eq (Key s) (codes "in$")) (bytes_eq (Key s) (codes "out$")) (no_end 105 l f refl refl)
        (no_name 111 (codes "ut$") refl (λ _ g. omega arith))

    pub console_out : 1 ≤ length s → to_ascii_lowercase (get_or s 0 0) ≡ 111 → r ≡ bytes_eq (Key s) (codes "out$") → r ≡ is_listed (continuations devices (codes "con")) (Key s)
    unfolding continuations is_ended_key
    console_out l f e =
        e
        ∙ third_alone (bytes_eq (Key s) []) (bytes_eq (Key s) (codes "in$")) (bytes_eq (Key s) (codes "out$")) (no_end 111 l f refl refl)
        (no_name 105 (codes "n$") refl (λ _ g. omega arith))

-- one digit

eqb_comm : (x y : ℕ) → eqb x y ≡ eqb y x
eqb_comm x y = grind (arith, nat_tests)

one_digit : (b : ℕ) (t ds : List ℕ) → AllByRecursion (λ d. is_ended_key (codes ".:") (codes " ") (d ∷ []) ≡ true) ds →
    is_listed (map (λ d. d ∷ []) ds) (Key (b ∷ t)) ≡ (char_set_contains ds (to_ascii_lowercase b) && bytes_eq (Key t) [])
one_digit b t [] h = refl
one_digit b t (d ∷ ds) h =
    ap (λ x. x || is_listed (map (λ d. d ∷ []) ds) (Key (b ∷ t))) (name_more (codes ".:") (codes " ") stop_lower space_lower b d t [] h.0)
    ∙ ap (λ x. (eqb (to_ascii_lowercase b) d && bytes_eq (Key t) []) || x) (one_digit b t ds h.1)
    ∙ apart (eqb (to_ascii_lowercase b) d) (char_set_contains ds (to_ascii_lowercase b)) (bytes_eq (Key t) [])
    ∙ ap (λ x. (x || char_set_contains ds (to_ascii_lowercase b)) && bytes_eq (Key t) []) (eqb_comm (to_ascii_lowercase b) d)
  where
    apart : (x y z : Bool) → ((x && z) || (y && z)) ≡ ((x || y) && z)
    apart true true true = refl
    apart true true false = refl
    apart true false true = refl
    apart true false false = refl
    apart false y z = refl

from_one : (b : ℕ) → not (ltb b 49 || ltb 57 b) ≡ char_set_contains (codes "123456789") (to_ascii_lowercase b)
from_one b = grind (arith, nat_tests)

from_zero : (b : ℕ) → not (ltb b 48 || ltb 57 b) ≡ char_set_contains (codes "0123456789") (to_ascii_lowercase b)
from_zero b = grind (arith, nat_tests)

pub numbered : (least : ℕ) (s : List ℕ) → 1 ≤ length s → (ltb (get_or s 0 0) least || ltb 57 (get_or s 0 0)) ≡ false →
    bytes_eq (Key (take (length s - 1) (drop 1 s))) [] ≡ is_one_digit least s
numbered least s l e = sym (ap (is_one_digit least) (first_rest s 0 l) ∙ rw e)

pub numbered_com : (s : List ℕ) → is_one_digit 49 s ≡ is_listed (continuations devices (codes "com")) (Key s)
unfolding continuations is_ended_key
numbered_com [] = rw (key_nil (codes ".:") (codes " "))
numbered_com (b ∷ t) =
    ap (λ x. x && bytes_eq (Key t) []) (from_one b)
    ∙ sym (one_digit b t (codes "123456789") (refl, (refl, (refl, (refl, (refl, (refl, (refl, (refl, (refl, tt))))))))))

pub numbered_lpt : (s : List ℕ) → is_one_digit 48 s ≡ is_listed (continuations devices (codes "lpt")) (Key s)
unfolding continuations is_ended_key
numbered_lpt [] = rw (key_nil (codes ".:") (codes " "))
numbered_lpt (b ∷ t) =
    ap (λ x. x && bytes_eq (Key t) []) (from_zero b)
    ∙ sym (one_digit b t (codes "0123456789") (refl, (refl, (refl, (refl, (refl, (refl, (refl, (refl, (refl, (refl, tt)))))))))))

-- a component

three_rest : (s : List ℕ) → 3 ≤ length s → s ≡ get_or s 0 0 ∷ get_or s 1 0 ∷ get_or s 2 0 ∷ take (length s - 3) (drop 3 s)
three_rest [] h = let z : ⊥ = omega arith in absurd z
three_rest (a ∷ []) h = let z : ⊥ = omega arith in absurd z
three_rest (a ∷ b ∷ []) h = let z : ⊥ = omega arith in absurd z
three_rest (a ∷ b ∷ c ∷ t) h = ap (λ u. a ∷ b ∷ c ∷ u) (sym (take_all (length (a ∷ b ∷ c ∷ t) - 3) t (omega arith)))

pub too_short : (s : List ℕ) → length s < 3 → false ≡ is_device s
unfolding is_device device_key
too_short s h =
    sym (few (device_key s) devices (simp (length-map, length-take) (omega arith)) long_names)

pub by_letters : (s : List ℕ) (a b c : ℕ) (r : Bool) → 3 ≤ length s → a ≡ to_ascii_lowercase (get_or s 0 0) → b ≡ to_ascii_lowercase (get_or s 1 0) → c ≡ to_ascii_lowercase (get_or s 2 0) →
    r ≡ is_listed (continuations devices (a ∷ b ∷ c ∷ [])) (Key (take (length s - 3) (drop 3 s))) → r ≡ is_device s
unfolding is_device device_key ended_key
by_letters s a b c r l x y z e =
    let t = take (length s - 3) (drop 3 s) in
    with_letters _ _ _ a b c t r (sym x) (sym y) (sym z) e
    ∙ sym (after_three (codes ".:") (codes " ") stop_lower space_lower (get_or s 0 0) (get_or s 1 0) (get_or s 2 0) t devices device_names long_names)
    ∙ ap (λ u. is_listed devices (Key u)) (sym (three_rest s l))

pub device_decides : (s : List ℕ) (r : Bool) → r ≡ is_device s → Decides r (Contains devices (device_key s))
unfolding is_device
device_decides s r e = subst (λ b. Decides b (Contains devices (device_key s))) (sym e) (is_listed-decides devices (device_key s))
