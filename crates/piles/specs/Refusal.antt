-- Why there is no pile, as a number and in words.
use Rattle.std.specs.Prelude.{ℕ, List, codes}
use Rattle.piles.specs.declared.refusal.PileError.{PileError}
use Rattle.piles.specs.declared.refusal.PileError.TheVariants.{TooManyLayers}

-- the number of an error
abbrev pub number_of : PileError → ℕ
number_of TooManyLayers = 34

-- what is read out
abbrev pub text_of : PileError → List ℕ
text_of TooManyLayers = codes "a pile has at most 16 layers"
