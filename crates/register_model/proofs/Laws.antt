-- The laws that every rulebook and file system keeps, as the lemmas on runs take them.
use Rattle.std.proofs.Common.{◌≡◌, ℕ, true, List, [], ◌≢◌}
use Rattle.std.specs.List.{Contains}
use Rattle.tag.specs.Answers.Answer.{allowed}
use Rattle.tag.specs.Components.{components}
use Rattle.filesystems.specs.Keys.{Key}
use Rattle.register_model.specs.Calls.{Meaning}

pub record Lawful (m : Meaning) : Type 0 where
  pub no_empty_component :
      (x c : List ℕ) → m.ruling x ≡ allowed → Contains (components x) c → c ≢ []
  pub symmetric : (a b : List ℕ) → m.together a b ≡ true → m.together b a ≡ true
  pub some_key : m.keys ≢ []
  pub equal_keys_together :
      (key : Key) (a b : List ℕ) → Contains m.keys key → key a ≡ key b → m.together a b ≡ true
