-- Tag names: the answer for each byte string.
use Rattle.std.specs.Prelude.{ℕ, if◌then◌else◌, not, ◌&&◌, List, [], ◌∷◌, ◌++◌, length, ◌==◌, slice_index}
use Rattle.std.specs.Str.{byte}
use Rattle.tag.specs.Answers.{Answer, Value, first_refusal}
use Rattle.tag.specs.Answers.Answer.{allowed, refused}
use Rattle.tag.specs.Answers.Value.{nothing}
use Rattle.tag.specs.Bytes.{dot_lock, ends_in_lock, invalid, last_byte}

-- The rules for a byte b by the byte a before it. The first that applies decides.
abbrev pub fault_after : ℕ → ℕ → Answer Value
fault_after a b =
    if invalid b then refused 1 (Value.byte b)
    else if b == byte "*" then refused 7 nothing
    else if b == byte "." && a == byte "." then refused 4 nothing
    else if b == byte "." && a == byte "/" then refused 8 nothing
    else if b == byte "{" && a == byte "@" then refused 6 nothing
    else if b == byte "/" && a == byte "/" then refused 3 nothing
    else allowed

-- The rules for a byte b that stands after the bytes `front`: a slash also closes a component, which must not end in .lock
abbrev pub fault : List ℕ → ℕ → Answer Value
fault front b =
    first_refusal (fault_after (last_byte front) b)
    (if b == byte "/" && ends_in_lock front then refused 5 nothing else allowed)

-- The bytes are read from the left, `front` being those before `rest`; the first byte with a fault decides.
unfoldable pub reads : List ℕ → List ℕ → Answer Value
reads front [] = allowed
reads front (b ∷ rest) = first_refusal (fault front b) (reads (front ++ b ∷ []) rest)

-- The rules before any byte is read: 11 for no byte, 10 for a last slash, 2 for a first slash.
abbrev pub opening : List ℕ → Answer Value
opening s =
    if length s == 0 then refused 11 nothing
    else if last_byte s == byte "/" then refused 10 nothing
    else if slice_index s 0 == byte "/" then refused 2 nothing
    else allowed

-- The rules after the bytes: 5 at the last byte for a name that ends in .lock and is not exactly .lock, then 8 for a
-- first dot and 9 for a last dot.
abbrev pub closing : List ℕ → Answer Value
closing s =
    if ends_in_lock s && not (length s == length dot_lock) then refused 5 nothing
    else if slice_index s 0 == byte "." then refused 8 nothing
    else if last_byte s == byte "." then refused 9 nothing
    else allowed

-- The answer for the tag name s.
unfoldable pub tag_name : List ℕ → Answer Value
tag_name s = first_refusal (opening s) (first_refusal (reads [] s) (closing s))
