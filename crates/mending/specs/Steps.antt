-- How the text grows, component by component. Only private functions cite these definitions: no public contract rests on them.
use Rattle.std.specs.Prelude.{◌≡◌, ◌≢◌, ◌<◌, ◌≤◌, ℕ, ◌+◌, Bool, if◌then◌else◌, ◌&&◌, ◌||◌, List, [], ◌∷◌, ◌++◌, length, ◌==◌, slice_index}
use Rattle.std.specs.Str.{byte}
use Rattle.tag.specs.Bytes.{last_byte}
use Rattle.mending.specs.Mender.{mended_component}

-- The first component of s has n bytes: none of these is a slash, and a slash or the end comes next.
abbrev pub FirstEnds : List ℕ → ℕ → Type 0
FirstEnds s n =
    (n ≤ length s) × ((k : ℕ) → k < n → slice_index s k ≢ byte "/") × (n < length s → slice_index s n ≡ byte "/")

-- The text with one component more: an empty one adds nothing, and a slash stands before any but the first.
abbrev pub add : List ℕ → List ℕ → List ℕ
add text c =
    if length c == 0 then text
    else if length text == 0 then mended_component c
    else text ++ byte "/" ∷ mended_component c

-- The text with these components more.
unfoldable pub add_all : List ℕ → List (List ℕ) → List ℕ
add_all text [] = text
add_all text (c ∷ cs) = add_all (add text c) cs

-- Where the next component is written, after a text of n bytes: behind the place of its slash.
abbrev pub gap : ℕ → ℕ
gap n = if n == 0 then 0 else n + 1

-- Whether the last byte of a text that is not empty becomes a dash: it is a dot, or the text is @
abbrev pub wants_dash : List ℕ → Bool
wants_dash s = last_byte s == byte "." || (length s == 1 && slice_index s 0 == byte "@")
