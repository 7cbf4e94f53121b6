-- Which call a line is.
use Rattle.std.specs.Prelude.{ℕ, ◌+◌, ◌-◌, ◌*◌, Bool, if◌then◌else◌, ◌&&◌, List, [], ◌∷◌, length, fold, Some, None, Option, ◌==◌, nat_le}
use Rattle.std.specs.List.{list_all}
use Rattle.std.specs.Option.{option_map}
use Rattle.std.specs.Str.{byte}
use Rattle.tag.specs.Splits.{split_once}
use Rattle.register_model.specs.Calls.{Call}
use Rattle.register_model.specs.Calls.Call.{enter, offer, remove, rename}

-- Whether a byte is a digit.
abbrev pub is_digit : ℕ → Bool
is_digit b = nat_le (byte "0") b && nat_le b (byte "9")

-- Whether each byte is one.
abbrev pub all_digits : List ℕ → Bool
all_digits s = list_all is_digit s

-- The number that digits spell.
abbrev pub value : List ℕ → ℕ
value s = fold (λ n d. n * 10 + (d - byte "0")) 0 s

-- The number that 1 to 9 digits spell.
abbrev pub number_of_digits : List ℕ → Option ℕ
number_of_digits ds =
    if nat_le 1 (length ds) && (nat_le (length ds) 9 && all_digits ds)
    then Some (value ds)
    else None

-- The number that the first of two parts spells, and the second part.
abbrev pub number_in : Option (List ℕ × List ℕ) → Option (ℕ × List ℕ)
number_in None = None
number_in (Some p) = option_map (λ n. (n, p.1)) (number_of_digits p.0)

-- A number, and what stands after it and a space.
abbrev pub number_before : List ℕ → Option (ℕ × List ℕ)
number_before s = number_in (split_once (byte " ") s)

-- The calls from their parts, with no mode.
abbrev pub an_enter : ℕ × List ℕ → Call
an_enter p = enter p.1 p.0 None

abbrev pub an_offer : ℕ × List ℕ → Call
an_offer p = offer p.1 p.0

abbrev pub a_rename : List ℕ × List ℕ → Call
a_rename p = rename p.0 p.1 None

-- The call of a line that begins with the byte k and a space, and goes on with s: `e NUMBER NAME`, `o NUMBER TEXT`,
-- `r OLD NEW` with a tab between the two names, or `d NAME`.
abbrev pub call_by : ℕ → List ℕ → Option Call
call_by k s =
    if k == byte "e" then option_map an_enter (number_before s)
    else if k == byte "o" then option_map an_offer (number_before s)
    else if k == byte "r" then option_map a_rename (split_once (byte "\t") s)
    else if k == byte "d" then Some (remove s)
    else None

-- The call of a line, if it is one.
unfoldable pub read_line : List ℕ → Option Call
read_line [] = None
read_line (k ∷ []) = None
read_line (k ∷ (b ∷ s)) = if b == byte " " then call_by k s else None
