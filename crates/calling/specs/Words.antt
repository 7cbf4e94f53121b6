-- What the error of a campus says.
use Rattle.std.specs.Prelude.{ℕ, List}
use Rattle.filesystems.specs.Refusal as pairs
use Rattle.piles.specs.Refusal as piles
use Rattle.calling.specs.declared.refusal.CampusError.{CampusError}
use Rattle.calling.specs.declared.refusal.CampusError.TheVariants.{Pair, Pile}

-- The words of the refusal that it holds.
abbrev pub words_of : CampusError → List ℕ
words_of (Pair error) = pairs.text_of error
words_of (Pile error) = piles.text_of error
