-- What the private functions that compare a component with a fixed name cite: nothing here has to be believed.
use Rattle.std.specs.Prelude.{ℕ, Bool, true, false, if◌then◌else◌, not, ◌&&◌, ◌||◌, List, [], ◌∷◌, map, length, take, drop, Some, None, codes, filter, Option, nat_le, nat_lt, bytes_eq}
use Rattle.std.specs.Borrow.{Bor}
use Rattle.std.specs.Char.{char_set_contains}
use Rattle.std.specs.List.{list_all}
use Rattle.std.specs.Option.{option_map_or}
use Rattle.std.specs.Str.{byte}
use Rattle.protections.specs.Keys.{lowered, until_any, trimmed}

-- the bytes in front of the first stop, without the fillers at their end, A to Z made small
unfoldable pub ended_key : List ℕ → List ℕ → List ℕ → List ℕ
ended_key stops fillers s = lowered (trimmed fillers (until_any stops s))

-- a name that can be such a key: it has no stop, and its last byte is no filler
unfoldable pub is_ended_key : List ℕ → List ℕ → List ℕ → Bool
is_ended_key stops fillers [] = true
is_ended_key stops fillers (x ∷ []) =
    not (char_set_contains stops x) && not (char_set_contains fillers x)
is_ended_key stops fillers (x ∷ y ∷ w) =
    not (char_set_contains stops x) && is_ended_key stops fillers (y ∷ w)

-- there is something left of a component, and nothing in it counts
abbrev pub nothing_follows : List ℕ → List ℕ → Option (Bor (List ℕ)) → Bool
nothing_follows stops fillers left =
    option_map_or (λ rest. bytes_eq (ended_key stops fillers rest.now) []) left false

-- what is left after so many bytes, if these are fillers
abbrev pub after_block : List ℕ → ℕ → List ℕ → Option (List ℕ)
after_block fillers n s =
    if nat_le n (length s) && list_all (char_set_contains fillers) (take n s)
    then Some (drop n s)
    else None

-- a digit from the given one on, and then nothing that counts
abbrev pub is_one_digit : ℕ → List ℕ → Bool
is_one_digit least [] = false
is_one_digit least (b ∷ t) =
    not (nat_lt b least || nat_lt (byte "9") b)
    && bytes_eq (ended_key (codes ".:") (codes " ") t) []

-- what follows the three letters in the names that begin with them
unfoldable pub continuations : List (List ℕ) → List ℕ → List (List ℕ)
continuations names letters = map (drop 3) (filter (λ n. bytes_eq letters (take 3 n)) names)
