-- The names that the verdicts look for, as keys.
use Rattle.std.specs.Prelude.{◌≡◌, ℕ, ◌-◌, ◌≤◌, Bool, false, ◌&&◌, List, [], ◌∷◌, ◌++◌, length, take, drop, codes, ◌==◌, bytes_eq}
use Rattle.std.specs.Char.{is_ascii_digit}
use Rattle.std.specs.Int.{is_in_range}
use Rattle.std.specs.Str.{byte}
use Rattle.std.specs.List.{AllByRecursion, list_all, list_any}

-- one of the names is the given one
abbrev pub is_listed : List (List ℕ) → List ℕ → Bool
is_listed names k = list_any (bytes_eq k) names

-- Git's own directory
abbrev pub git : List ℕ
git = codes ".git"

-- the file in which Git reads of submodules
abbrev pub modules : List ℕ
modules = codes ".gitmodules"

-- what NTFS takes for .git
abbrev pub ntfs_git : List (List ℕ)
ntfs_git = git ∷ codes "git~1" ∷ []

-- what NTFS takes for .gitmodules, besides the short names below
abbrev pub ntfs_modules : List (List ℕ)
ntfs_modules =
    modules ∷ codes "gitmod~1" ∷ codes "gitmod~2" ∷ codes "gitmod~3" ∷ codes "gitmod~4" ∷ []

-- the letters that NTFS makes short names of .gitmodules from
abbrev pub short : List ℕ
short = codes "gi7eba"

-- a short name: so many of the first bytes of gi7eba, a tilde, a digit 1 to 9, and as many digits as make eight bytes
pub record ShortName (k : List ℕ) : Type 0 where
  pub kept : ℕ
  pub at_most : kept ≤ 6
  pub first : ℕ
  pub from_one : byte "1" ≤ first
  pub to_nine : first ≤ byte "9"
  pub digits : List ℕ
  pub as_many : length digits ≡ 6 - kept
  pub each : AllByRecursion (λ d. (byte "0" ≤ d) × (d ≤ byte "9")) digits
  pub whole : k ≡ take kept short ++ byte "~" ∷ first ∷ digits

-- a short name as a test, at a number of bytes kept

-- a tilde, a digit 1 to 9, so many digits
abbrev pub has_digits : ℕ → List ℕ → Bool
has_digits n [] = false
has_digits n (t ∷ []) = false
has_digits n (t ∷ d ∷ ds) =
    t == byte "~"
    && (is_in_range (byte "1") (byte "9") d && (length ds == n && list_all is_ascii_digit ds))

-- the first bytes kept of gi7eba, and then numbered, so that it has eight bytes
abbrev pub short_at : List ℕ → ℕ → Bool
short_at k kept = bytes_eq (take kept k) (take kept short) && has_digits (6 - kept) (drop kept k)

-- at some number of bytes kept
unfoldable pub short_name : List ℕ → Bool
short_name k = list_any (short_at k) (0 ∷ 1 ∷ 2 ∷ 3 ∷ 4 ∷ 5 ∷ 6 ∷ [])

-- the names of Windows' devices, as keys
abbrev pub devices : List (List ℕ)
devices =
    codes "aux" ∷ codes "nul" ∷ codes "prn" ∷ codes "con" ∷ codes "conin$" ∷ codes "conout$" ∷
    codes "com1" ∷ codes "com2" ∷ codes "com3" ∷ codes "com4" ∷ codes "com5" ∷
    codes "com6" ∷ codes "com7" ∷ codes "com8" ∷ codes "com9" ∷
    codes "lpt0" ∷ codes "lpt1" ∷ codes "lpt2" ∷ codes "lpt3" ∷ codes "lpt4" ∷
    codes "lpt5" ∷ codes "lpt6" ∷ codes "lpt7" ∷ codes "lpt8" ∷ codes "lpt9" ∷
    []

-- one of : < > " | ? *
abbrev pub illegal_marks : List ℕ
illegal_marks = codes ":<>\"|?*"
