-- The keys of the five protections: lists of numbers by which components are compared.
use Rattle.std.specs.Prelude.{ℕ, ◌-◌, Bool, not, ◌||◌, List, map, length, take, codes, filter, ◌==◌, take_while}
use Rattle.std.specs.Char.{to_ascii_lowercase, char_set_contains}
use Rattle.std.specs.Int.{is_in_range}
use Rattle.std.specs.List.{suffix_len}
use Rattle.characters.specs.Reader.{code_points}

-- A to Z made small
abbrev pub lowered : List ℕ → List ℕ
lowered s = map to_ascii_lowercase s

-- the bytes in front of the first that is in the set
abbrev pub until_any : List ℕ → List ℕ → List ℕ
until_any set s = take_while (λ b. not (char_set_contains set b)) s

-- without the bytes at the end that are in the set
abbrev pub trimmed : List ℕ → List ℕ → List ℕ
trimmed set s = take (length s - suffix_len (char_set_contains set) s) s

-- the characters that HFS+ passes over
abbrev pub is_passed_over : ℕ → Bool
is_passed_over c =
    is_in_range 0x200C 0x200F c
    || (is_in_range 0x202A 0x202E c || (is_in_range 0x206A 0x206F c || c == 0xFEFF))

-- the characters without those that HFS+ passes over, A to Z made small
unfoldable pub hfs_key : List ℕ → List ℕ
hfs_key s = lowered (filter (λ c. not (is_passed_over c)) (code_points s))

-- the bytes in front of the first colon, without spaces and dots at their end, A to Z made small
unfoldable pub ntfs_key : List ℕ → List ℕ
ntfs_key s = lowered (trimmed (codes " .") (until_any (codes ":") s))

-- the key of a device's name, the bytes in front of the first dot or colon, without spaces at their end, A to Z made small;
-- components are not compared by it
unfoldable pub device_key : List ℕ → List ℕ
device_key s = lowered (trimmed (codes " ") (until_any (codes ".:") s))
