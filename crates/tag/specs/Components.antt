-- The components of a name.
use Rattle.std.specs.Prelude.{◌≡◌, ℕ, Bool, ◌||◌, ◌⊎◌, if◌then◌else◌, List, [], ◌∷◌, ◌++◌, ◌≢◌, ◌==◌, All, Contains, bytes_eq, codes}
use Rattle.std.specs.Str.{byte}

-- The byte b in front of the first of these components.
abbrev pub onto : ℕ → List (List ℕ) → List (List ℕ)
onto b [] = (b ∷ []) ∷ []
onto b (c ∷ cs) = (b ∷ c) ∷ cs

-- The parts of a byte string between its slashes. The empty string has one component, which is empty.
unfoldable pub components : List ℕ → List (List ℕ)
components [] = [] ∷ []
components (b ∷ s) = if b == byte "/" then [] ∷ components s else onto b (components s)

-- Components joined with slashes.
unfoldable pub joined : List (List ℕ) → List ℕ
joined [] = []
joined (c ∷ []) = c
joined (c ∷ (d ∷ cs)) = c ++ byte "/" ∷ joined (d ∷ cs)

-- What makes these the components of s: there is one at least, joined they are s, and none holds a slash.
pub record AreComponents (s : List ℕ) (cs : List (List ℕ)) : Type 0 where
  pub some : cs ≢ []
  pub joins : joined cs ≡ s
  pub slash_free : All (λ c. ¬ Contains c (byte "/")) cs

-- A component that stands for another place than itself.
abbrev pub IsRelative : List ℕ → Type 0
IsRelative c = (c ≡ codes ".") ⊎ (c ≡ codes "..")

-- The same as a test.
abbrev pub is_relative : List ℕ → Bool
is_relative c = bytes_eq c (codes ".") || bytes_eq c (codes "..")
