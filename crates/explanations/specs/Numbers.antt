-- Every refusal by its number.
use Rattle.std.specs.Prelude.{ℕ, List, [], ◌∷◌, ◌++◌, Option, map, ◌==◌}
use Rattle.std.specs.List.{find}
use Rattle.words.specs.Numbers as names
use Rattle.mending.specs.Errors as mender
use Rattle.protections.specs.Rules.{verdict_number}
use Rattle.filesystems.specs.Refusal as pairs
use Rattle.piles.specs.Refusal as piles
use Rattle.register_model.specs.Calls as model
use Rattle.register.specs.Faults.{own_fault}
use Rattle.protections.specs.declared.rules.Verdict.TheVariants.{PathSeparator, WindowsPathPrefix, WindowsReservedName, WindowsIllegalCharacter, DotGitDir, SymlinkedGitModules}
use Rattle.mending.specs.declared.Error.TheVariants.{BufferTooShort}
use Rattle.filesystems.specs.declared.refusal.DeclareError.TheVariants.{ComponentTooLong, TooManyPairs}
use Rattle.piles.specs.declared.refusal.PileError.TheVariants.{TooManyLayers}
use Rattle.register.specs.declared.faults.StateFault.TheVariants.{Full, Met, NotKept, TooLong}
use Rattle.explanations.specs.declared.AnyRefusal.{AnyRefusal}
use Rattle.explanations.specs.declared.AnyRefusal.TheVariants.{Name, Component, Mender, Pair, Pile, Register}

-- The number of a refusal.
abbrev pub number_of : AnyRefusal → ℕ
number_of (Name r) = names.number_of r
number_of (Component v) = verdict_number v
number_of (Mender e) = mender.number_of e
number_of (Pair e) = pairs.number_of e
number_of (Pile e) = piles.number_of e
number_of (Register f) = model.number_of (own_fault f)

-- All of them: that of a name that meets a kept one is one for all places.
abbrev pub all : List AnyRefusal
all =
    map Name names.all
    ++ Component PathSeparator ∷ Component WindowsPathPrefix ∷ Component WindowsReservedName
    ∷ Component WindowsIllegalCharacter ∷ Component DotGitDir ∷ Component SymlinkedGitModules
    ∷ Mender BufferTooShort ∷ Pair ComponentTooLong ∷ Pair TooManyPairs ∷ Pile TooManyLayers
    ∷ Register TooLong ∷ Register (Met 0) ∷ Register Full ∷ Register NotKept ∷ []

-- The refusal of a number, if one has it.
abbrev pub known : ℕ → Option AnyRefusal
known n = find (λ r. number_of r == n) all
