-- The mender: the text that it makes of a byte string, and what it leaves in the buffer.
use Rattle.std.specs.Prelude.{ℕ, zero, suc, ◌-◌, max, if◌then◌else◌, ◌&&◌, ◌||◌, List, [], ◌∷◌, ◌++◌, map, length, take, drop, replicate, codes, ◌==◌, nat_le, slice_index, slice_set, Ok, Err, Result}
use Rattle.std.specs.Str.{byte}
use Rattle.tag.specs.Bytes.{dot_lock, ends_in_lock, invalid, last_byte}
use Rattle.tag.specs.Components.{components, joined}
use Rattle.mending.specs.declared.Error.{Error}
use Rattle.mending.specs.declared.Error.TheVariants.{BufferTooShort}

-- What stands for the byte b of a component, a being the byte before it (a slash before the first): a dash for a byte that
-- no name may hold and for { after @. Of a run of dots only the first is left, and a dash stands for it where the component
-- starts with it.
abbrev pub replacement : ℕ → ℕ → List ℕ
replacement a b =
    if invalid b || b == byte "*" then codes "-"
    else if b == byte "{" && a == byte "@" then codes "-"
    else if b == byte "." && a == byte "." then []
    else if b == byte "." && a == byte "/" then codes "-"
    else b ∷ []

-- The bytes of a component that stand after the byte a, each replaced.
unfoldable pub replaced : ℕ → List ℕ → List ℕ
replaced a [] = []
replaced a (b ∷ c) = replacement a b ++ replaced b c

-- c without .lock at its end, taken off at most n times.
unfoldable pub without_lock_up_to : ℕ → List ℕ → List ℕ
without_lock_up_to zero c = c
without_lock_up_to (suc n) c =
    if ends_in_lock c then without_lock_up_to n (take (length c - length dot_lock) c) else c

-- c without .lock at its end, taken off as often as it stands there.
unfoldable pub without_lock : List ℕ → List ℕ
without_lock c = without_lock_up_to (length c) c

-- A component mended.
unfoldable pub mended_component : List ℕ → List ℕ
mended_component c = without_lock (replaced (byte "/") c)

-- The components that have a byte.
unfoldable pub nonempty : List (List ℕ) → List (List ℕ)
nonempty [] = []
nonempty (c ∷ cs) = if length c == 0 then nonempty cs else c ∷ nonempty cs

-- A last dot becomes a dash.
abbrev pub dash_end : List ℕ → List ℕ
dash_end s = if last_byte s == byte "." then slice_set s (length s - 1) (byte "-") else s

-- The text @ and the empty one become a dash.
abbrev pub dash_alone : List ℕ → List ℕ
dash_alone s =
    if length s == 0 || (length s == 1 && slice_index s 0 == byte "@") then codes "-" else s

-- The mended text of s.
unfoldable pub mended : List ℕ → List ℕ
mended s = dash_alone (dash_end (joined (map mended_component (nonempty (components s)))))

-- The bytes of the buffer that the mender writes: as many as the input has, and at least one.
abbrev pub room : List ℕ → ℕ
room s = max 1 (length s)

-- The buffer with the text at its front, zeros up to n, and later bytes as they were.
abbrev pub buffer_with : List ℕ → ℕ → List ℕ → List ℕ
buffer_with text n before = text ++ (replicate (n - length text) 0 ++ drop n before)

-- The answer for the text made of the input s and a buffer of n bytes: the text's length, and an error where the buffer is
-- shorter than the room.
abbrev pub length_or_error : List ℕ → List ℕ → ℕ → Result ℕ Error
length_or_error text s n = if nat_le (room s) n then Ok (length text) else Err BufferTooShort

-- The buffer after the call: as it was where the call is refused.
abbrev pub buffer_after : List ℕ → List ℕ → List ℕ → List ℕ
buffer_after text s before =
    if nat_le (room s) (length before) then buffer_with text (room s) before else before
