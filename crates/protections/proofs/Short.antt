-- The test for short names, on a name whose letters are not yet made small.
use Rattle.std.proofs.Common.{Bor, MatchOption, Some, None, Option, ◌≡◌, ℕ, zero, suc, ◌-◌, ◌<◌, ◌≤◌, Bool, false, ◌&&◌, eqb, leb, List, [], ◌∷◌, length, get_or, take, drop, sym, refl, ◌∙◌, arith}
use Rattle.std.specs.Char.{to_ascii_lowercase, is_ascii_digit}
use Rattle.std.specs.List.{list_all, IsSplitAt}
use Rattle.std.specs.Option.{option_map_or}
use Rattle.std.proofs.lemmas.List.{take_all, take-map, drop-map, drop_all, length-map}
use Rattle.std.proofs.lemmas.Bool.{eq-eqb, le-leb, and_right}
use Rattle.std.proofs.Math.Bool.{and_comm}
use Rattle.std.proofs.lemmas.Bool.Decides.{nat_tests}
use Rattle.std.specs.Prelude.{bytes_eq}
use Rattle.protections.specs.Keys.{lowered}
use Rattle.protections.specs.Names.{short, has_digits, short_at}

-- a tilde, a digit 1 to 9 and so many digits, as the code reads them
pub numbered_yes : (n : ℕ) (s : List ℕ) → 2 ≤ length s → get_or s 0 0 ≡ 126 → 49 ≤ get_or s 1 0 → get_or s 1 0 ≤ 57 →
    length (take (length s - 2) (drop 2 s)) ≡ n → (r : Bool) → r ≡ list_all is_ascii_digit (take (length s - 2) (drop 2 s)) → r ≡ has_digits n s
numbered_yes n [] h t a b l r e = let z : ⊥ = omega arith in absurd z
numbered_yes n (x ∷ []) h t a b l r e = let z : ⊥ = omega arith in absurd z
numbered_yes n (x ∷ y ∷ ds) h t a b l r e =
    let whole = take_all (length (x ∷ y ∷ ds) - 2) ds (omega arith) in
    let long : length ds ≡ n = rw whole at l in
    let digits : r ≡ list_all is_ascii_digit ds = rw whole at e in
    digits ∙ sym (rw (eq-eqb x 126 t, le-leb 49 y a, le-leb y 57 b, eq-eqb (length ds) n long))

-- letters made small do not matter there
tilde_lower : (b : ℕ) → eqb (to_ascii_lowercase b) 126 ≡ eqb b 126
tilde_lower b = grind (arith, nat_tests)

first_lower : (b : ℕ) → (leb 49 (to_ascii_lowercase b) && leb (to_ascii_lowercase b) 57) ≡ (leb 49 b && leb b 57)
first_lower b = grind (arith, nat_tests)

digit_lower : (b : ℕ) → is_ascii_digit (to_ascii_lowercase b) ≡ is_ascii_digit b
digit_lower b = grind (arith, nat_tests)

digits_lowered : (s : List ℕ) → list_all is_ascii_digit (lowered s) ≡ list_all is_ascii_digit s
digits_lowered [] = refl
digits_lowered (b ∷ s) = rw (digit_lower b, digits_lowered s)

numbered_lowered : (n : ℕ) (s : List ℕ) → has_digits n (lowered s) ≡ has_digits n s
numbered_lowered n [] = refl
numbered_lowered n (t ∷ []) = refl
numbered_lowered n (t ∷ d ∷ ds) = rw (tilde_lower t, first_lower d, length-map ds to_ascii_lowercase, digits_lowered ds)

module _ (name : List ℕ) (kept : ℕ) where
  split : short_at (lowered name) kept ≡ (bytes_eq (lowered (take kept name)) (take kept short) && has_digits (6 - kept) (drop kept name))
  split = rw (take-map to_ascii_lowercase kept name, drop-map to_ascii_lowercase kept name, numbered_lowered (6 - kept) (drop kept name))

  too_short : length name < kept → false ≡ short_at (lowered name) kept
  too_short h =
      let none = drop_all kept name (omega arith) in
      sym (split ∙ and_right (bytes_eq (lowered (take kept name)) (take kept short)) (has_digits (6 - kept) (drop kept name)) (rw none))

  -- the two parts of a name
  abbrev pub parts_short : Bor (List ℕ) × Bor (List ℕ) → Bool
  parts_short p = has_digits (6 - kept) p.1.now && bytes_eq (lowered p.0.now) (take kept short)

  pub short_by : (o : Option (Bor (List ℕ) × Bor (List ℕ))) → MatchOption o (length name < kept) (λ p. IsSplitAt name kept p.0.now p.1.now) →
      option_map_or parts_short o false ≡ short_at (lowered name) kept
  short_by None h = too_short h
  short_by (Some p) h =
      let front = h.1 in
      let back = h.2 in
      rw (front, back) (and_comm (has_digits (6 - kept) (drop kept name)) (bytes_eq (lowered (take kept name)) (take kept short)) ∙ sym split)

-- the numbers of bytes kept
abbrev pub choices : List ℕ
choices = 0 ∷ 1 ∷ 2 ∷ 3 ∷ 4 ∷ 5 ∷ 6 ∷ []

pub choice : (i : ℕ) → i < 7 → get_or choices i 0 ≡ i
choice zero h = refl
choice (suc zero) h = refl
choice (suc (suc zero)) h = refl
choice (suc (suc (suc zero))) h = refl
choice (suc (suc (suc (suc zero)))) h = refl
choice (suc (suc (suc (suc (suc zero))))) h = refl
choice (suc (suc (suc (suc (suc (suc zero)))))) h = refl
choice (suc (suc (suc (suc (suc (suc (suc i))))))) h = let z : ⊥ = omega arith in absurd z
