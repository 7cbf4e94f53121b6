-- What a pile means whose layers are a list, the first on top, over a declared bottom.
use Rattle.std.specs.Prelude.{◌≡◌, ℕ, Bool, ◌||◌, List, [], ◌∷◌, ◌++◌, map, Option, All, IsSome, IsNone, bytes_eq}
use Rattle.std.specs.Option.{option_or}
use Rattle.protections.specs.declared.rules.Mode.{Mode}
use Rattle.protections.specs.Rules.{plain_rule}
use Rattle.filesystems.specs.Keys.{Key, bytes_key}
use Rattle.filesystems.specs.Pairs.{Pairs, confused}
use Rattle.filesystems.specs.declared.interface.FileSystem as interface
use Rattle.piles.specs.declared.any_protection.AnyProtection.{AnyProtection}
use Rattle.piles.specs.AnyProtection.{rule_of, key_of}

-- the layers, the first on top, and the pairs that the bottom below them confuses
pub record Pile : Type 0 where
  pub layers : List AnyProtection
  pub bottom : Pairs

-- the verdict of the first layer from the top that has one, else the bottom's
abbrev pub judged : List AnyProtection → List ℕ → Option Mode → Option ℕ
judged [] s mode = plain_rule s mode
judged (layer ∷ layers) s mode = option_or (rule_of layer s mode) (judged layers s mode)

-- no layer has a verdict on the component
abbrev pub PassedByAll : List AnyProtection → List ℕ → Option Mode → Type 0
PassedByAll layers s mode = All (λ layer. IsNone (rule_of layer s mode)) layers

-- the verdict is that of a layer, and no layer above it has one
pub record IsOfLayer (layers : List AnyProtection) (s : List ℕ) (mode : Option Mode)
    (verdict : Option ℕ) : Type 0 where
  pub above : List AnyProtection
  pub layer : AnyProtection
  pub below : List AnyProtection
  pub order : layers ≡ above ++ layer ∷ below
  pub passed_above : PassedByAll above s mode
  pub refused : IsSome verdict
  pub by_layer : verdict ≡ rule_of layer s mode

-- the verdict is the bottom's, and no layer has one
pub record IsOfBottom (layers : List AnyProtection) (s : List ℕ) (mode : Option Mode)
    (verdict : Option ℕ) : Type 0 where
  pub passed : PassedByAll layers s mode
  pub by_bottom : verdict ≡ plain_rule s mode

-- equal under the key of some layer, or the bottom confuses them
abbrev pub together : List AnyProtection → Pairs → List ℕ → List ℕ → Bool
together [] bottom a b = confused bottom a b
together (layer ∷ layers) bottom a b =
    bytes_eq (key_of layer a) (key_of layer b) || together layers bottom a b

-- the layers' keys, and then the bottom's
abbrev pub keys_of : List AnyProtection → List Key
keys_of layers = map key_of layers ++ bytes_key ∷ []

-- two file systems have the same verdicts, take the same components for one another, and compare
-- by the same keys
pub record Alike {F G : Type 0} (f : interface.Ghosts F) (one : F) (g : interface.Ghosts G)
    (other : G) : Type 0 where
  pub verdict :
      (s : List ℕ) (mode : Option Mode) → f.verdict_of one s mode ≡ g.verdict_of other s mode
  pub together : (a b : List ℕ) → f.together one a b ≡ g.together other a b
  pub keys : f.keys one ≡ g.keys other
