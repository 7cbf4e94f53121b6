-- The rules by which a tag name is refused: the place of each in the order of the rules, its number, and what its refusal
-- carries. These relations say what the first refusal is without computing it.
use Rattle.std.specs.Prelude.{◌≡◌, ℕ, ◌+◌, ◌<◌, ◌⊎◌, List, [], ◌∷◌, ◌++◌, length, ◌≢◌, Contains, codes}
use Rattle.std.specs.Str.{byte}
use Rattle.tag.specs.Answers.{Value}
use Rattle.tag.specs.Answers.Value.{nothing}
use Rattle.tag.specs.Bytes.{delete, dot_lock}
use Rattle.tag.specs.Fronts.{Begins, Ends}

-- No name may hold the byte: it is a control character, DEL, a space or one of \ ^ : [ ? ~
abbrev pub IsForbidden : ℕ → Type 0
IsForbidden b = (b < byte " ") ⊎ Contains (delete ∷ codes " \\^:[?~") b

-- The rules for one byte that stands after the bytes `front`.
pub data AppliesAt (front : List ℕ) : ℕ → ℕ → Value → Type 0 where
  forbidden : {b : ℕ} → IsForbidden b → AppliesAt front b 1 (Value.byte b)
  slash_after_slash : Ends (codes "/") front → AppliesAt front (byte "/") 3 nothing
  dot_after_dot : Ends (codes ".") front → AppliesAt front (byte ".") 4 nothing
  slash_after_lock : Ends dot_lock front → AppliesAt front (byte "/") 5 nothing
  brace_after_at : Ends (codes "@") front → AppliesAt front (byte "{") 6 nothing
  asterisk : AppliesAt front (byte "*") 7 nothing
  dot_after_slash : Ends (codes "/") front → AppliesAt front (byte ".") 8 nothing

-- The rules for a tag name s, by place, number and value: three before any byte is read, then those for each byte from the
-- left, then three for the whole name.
pub data Applies (s : List ℕ) : ℕ → ℕ → Value → Type 0 where
  no_byte : s ≡ [] → Applies s 0 11 nothing
  slash_last : Ends (codes "/") s → Applies s 1 10 nothing
  slash_first : Begins (codes "/") s → Applies s 2 2 nothing
  at_byte : (front rest : List ℕ) {b n : ℕ} {v : Value}
      → s ≡ front ++ b ∷ rest → AppliesAt front b n v → Applies s (3 + length front) n v
  lock_last : Ends dot_lock s → s ≢ dot_lock → Applies s (3 + length s) 5 nothing
  dot_first : Begins (codes ".") s → Applies s (4 + length s) 8 nothing
  dot_last : Ends (codes ".") s → Applies s (5 + length s) 9 nothing
