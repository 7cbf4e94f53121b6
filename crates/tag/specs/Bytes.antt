-- Tests on bytes and on the ends of byte strings.
use Rattle.std.specs.Prelude.{ℕ, ◌-◌, Bool, ◌&&◌, ◌||◌, List, length, codes, ◌==◌, nat_le, nat_lt, slice_index}
use Rattle.std.specs.Str.{byte}

-- The number of DEL, and that of the space, below which each is a control character.
abbrev pub delete : ℕ
delete = 127

-- A control character, DEL, a space or one of \ ^ : [ ? ~
abbrev pub invalid : ℕ → Bool
invalid b =
    nat_lt b (byte " ")
    || (b == delete || (b == byte " " || (b == byte "\\" || (b == byte "^" || (b == byte ":"
    || (b == byte "[" || (b == byte "?" || b == byte "~")))))))

-- The last of these bytes, and 0 where there is none.
abbrev pub last_byte : List ℕ → ℕ
last_byte s = slice_index s (length s - 1)

-- The five bytes of .lock
abbrev pub dot_lock : List ℕ
dot_lock = codes ".lock"

-- Whether the last five bytes are .lock
abbrev pub ends_in_lock : List ℕ → Bool
ends_in_lock s =
    nat_le 5 (length s)
    && (slice_index s (length s - 5) == byte "."
    && (slice_index s (length s - 4) == byte "l"
    && (slice_index s (length s - 3) == byte "o"
    && (slice_index s (length s - 2) == byte "c" && slice_index s (length s - 1) == byte "k"))))
