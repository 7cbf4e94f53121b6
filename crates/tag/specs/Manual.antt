-- The rules of the manual page git-check-ref-format, as the manual numbers them.
use Rattle.std.specs.Prelude.{ℕ, ◌<◌, ◌⊎◌, List, [], ◌∷◌, ◌≢◌, All, Contains, codes}
use Rattle.std.specs.Str.{byte}
use Rattle.tag.specs.Bytes.{delete, dot_lock}
use Rattle.tag.specs.Components.{components}
use Rattle.tag.specs.Fronts.{Begins, Ends, Lacks}

-- The rules that bind every name. Rule 2 (at least one slash) and rule 9 (not the single character @) bind only some
-- checks, and stand with those.
pub record Rules (s : List ℕ) : Type 0 where
  -- the manual speaks of names that have a byte
  pub some_byte : s ≢ []
  -- 1. no component begins with a dot or ends with .lock
  pub no_dot_first : All (λ c. ¬ Begins (codes ".") c) (components s)
  pub no_lock_last : All (λ c. ¬ Ends dot_lock c) (components s)
  -- 3. no two consecutive dots
  pub no_dots : Lacks (codes "..") s
  -- 4. no control character, DEL, space, tilde, caret or colon
  pub no_control : All (λ b. ¬ ((b < byte " ") ⊎ Contains (delete ∷ codes " ~^:") b)) s
  -- 5. no question mark, asterisk or open bracket
  pub no_wildcard : All (λ b. ¬ Contains (codes "?*[") b) s
  -- 6. no slash at the beginning or the end, and no two consecutive slashes
  pub no_slash_first : ¬ Begins (codes "/") s
  pub no_slash_last : ¬ Ends (codes "/") s
  pub no_slashes : Lacks (codes "//") s
  -- 7. no dot at the end
  pub no_dot_last : ¬ Ends (codes ".") s
  -- 8. no sequence @{
  pub no_reflog : Lacks (codes "@{") s
  -- 10. no backslash
  pub no_backslash : ¬ Contains s (byte "\\")
