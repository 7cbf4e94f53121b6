-- The entries of a register, in ascending order of the bytes of their names.
use Rattle.std.specs.Prelude.{◌≡◌, ℕ, suc, Bool, true, false, if◌then◌else◌, List, [], ◌∷◌, ◌++◌, take, drop, Some, None, Option, ◌==◌, nat_lt, IsTrue}
use Rattle.std.specs.Option.{option_map}
use Rattle.std.specs.Str.{bytes_eq}

-- An entry is a name, a 32-bit number and a mode; M is the type of modes.
pub record Entry (M : Type 0) : Type 0 where
  pub name : List ℕ
  pub number : ℕ
  pub mode : M

-- x precedes y in the order of bytes: at the first byte in which they differ x has the smaller one, or x ends there.
unfoldable pub precedes : List ℕ → List ℕ → Bool
precedes [] [] = false
precedes [] (y ∷ ys) = true
precedes (x ∷ xs) [] = false
precedes (x ∷ xs) (y ∷ ys) = if x == y then precedes xs ys else nat_lt x y

-- An entry by its parts.
abbrev pub new_entry : {M : Type 0} → List ℕ → ℕ → M → Entry M
new_entry name number mode = record { name = name; number = number; mode = mode }

-- Each name precedes all later ones.
abbrev pub Ascends : {M : Type 0} → List (Entry M) → Type 0
Ascends {M} es =
    (p q r : List (Entry M)) (d e : Entry M) → es ≡ p ++ (d ∷ (q ++ (e ∷ r)))
    → IsTrue (precedes d.name e.name)

-- The place of the first entry that passes the test, counted from 0.
unfoldable pub first_place : {M : Type 0} → (Entry M → Bool) → List (Entry M) → Option ℕ
first_place test [] = None
first_place test (e ∷ es) = if test e then Some 0 else option_map suc (first_place test es)

-- The place of the entry with this name.
abbrev pub place_of : {M : Type 0} → List ℕ → List (Entry M) → Option ℕ
place_of x es = first_place (λ e. bytes_eq e.name x) es

-- How many entries precede the name in the order of bytes: the place that it has or would have.
unfoldable pub slot : {M : Type 0} → List ℕ → List (Entry M) → ℕ
slot x [] = 0
slot x (e ∷ es) = if precedes e.name x then suc (slot x es) else 0

-- The entries with one more, at its place.
abbrev pub put : {M : Type 0} → Entry M → List (Entry M) → List (Entry M)
put e es = take (slot e.name es) es ++ e ∷ drop (slot e.name es) es

-- The entries without the one of this name.
unfoldable pub strike : {M : Type 0} → List ℕ → List (Entry M) → List (Entry M)
strike x [] = []
strike x (e ∷ es) = if bytes_eq e.name x then es else e ∷ strike x es
