-- Reference names: the answer for each byte string.
use Rattle.std.specs.Prelude.{ℕ, Bool, if◌then◌else◌, ◌&&◌, ◌||◌, List, codes, bytes_eq, ◌==◌, nat_eq, nat_le}
use Rattle.std.specs.List.{list_any, list_all, starts_with}
use Rattle.std.specs.Str.{byte}
use Rattle.tag.specs.Answers.{Answer, Value, first_refusal}
use Rattle.tag.specs.Answers.Answer.{allowed, refused}
use Rattle.tag.specs.Answers.Value.{nothing, name}
use Rattle.tag.specs.Names.{tag_name}

-- Whether some byte is a slash.
abbrev pub has_slash : List ℕ → Bool
has_slash s = list_any (λ b. b == byte "/") s

-- Whether b is one of A to Z or an underscore.
abbrev pub is_capital : ℕ → Bool
is_capital b = (nat_le (byte "A") b && nat_le b (byte "Z")) || b == byte "_"

-- Whether a partial name is complete: it has a slash, or it is all of A to Z and underscores.
abbrev pub is_complete : List ℕ → Bool
is_complete s = has_slash s || list_all is_capital s

-- Whether no branch may have the name: refs/heads/HEAD, and what begins with refs/heads/-
abbrev pub kept_from_branches : List ℕ → Bool
kept_from_branches s =
    bytes_eq s (codes "refs/heads/HEAD") || starts_with nat_eq s (codes "refs/heads/-")

-- A partial name: a tag name other than @
unfoldable pub partial_name : List ℕ → Answer Value
partial_name s =
    first_refusal (tag_name s) (if bytes_eq s (codes "@") then refused 13 (name s) else allowed)

-- A complete name: a partial name that is complete.
unfoldable pub complete_name : List ℕ → Answer Value
complete_name s =
    first_refusal (partial_name s) (if is_complete s then allowed else refused 12 nothing)

-- A branch name: a complete name that is not kept from branches.
unfoldable pub branch_name : List ℕ → Answer Value
branch_name s =
    first_refusal (complete_name s) (if kept_from_branches s then refused 13 (name s) else allowed)
