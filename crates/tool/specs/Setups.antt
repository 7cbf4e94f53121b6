-- Why a pile is not made.
use Rattle.std.specs.Prelude.{◌≡◌, ℕ, ◌<◌, List, ◌∷◌, ◌++◌, Some, length}
use Rattle.std.specs.Borrow.{Bor}
use Rattle.filesystems.specs.declared.refusal.DeclareError.{DeclareError}
use Rattle.filesystems.specs.Pairs.{Pairs, WithinLimits}
use Rattle.filesystems.specs.Refusal as pairs
use Rattle.piles.specs.declared.any_protection.AnyProtection.{AnyProtection}
use Rattle.piles.specs.declared.chosen_pile.TheConstants.{MOST_LAYERS}
use Rattle.piles.specs.Refusal as piles
use Rattle.tool.specs.declared.piled.SetupError.{SetupError}
use Rattle.tool.specs.declared.piled.SetupError.TheVariants.{Pair, Layers}

-- The number of an error.
abbrev pub number_of : SetupError → ℕ
number_of (Pair e) = pairs.number_of e
number_of (Layers e) = piles.number_of e

-- The text of an error.
abbrev pub setup_text : SetupError → List ℕ
setup_text (Pair e) = pairs.text_of e
setup_text (Layers e) = piles.text_of e

-- The bytes of a pair that was passed.
abbrev pub pair_of : Bor (List ℕ) × Bor (List ℕ) → List ℕ × List ℕ
pair_of p = (p.0.now, p.1.now)

-- One of the pairs is refused by this error when those before it are declared.
abbrev pub FirstRefused : Pairs → DeclareError → Type 0
FirstRefused all e =
    (front : Pairs) × (left : List ℕ) × (right : List ℕ) × (back : Pairs)
    × (all ≡ front ++ (left, right) ∷ back)
    × WithinLimits front
    × (pairs.declare_rule front left right ≡ Some (pairs.number_of e))

-- A pair is refused, or all pairs are declared and there are too many layers.
abbrev pub SetupRefused : List AnyProtection → Pairs → SetupError → Type 0
SetupRefused layers all (Pair e) = FirstRefused all e
SetupRefused layers all (Layers e) = WithinLimits all × (MOST_LAYERS < length layers)
