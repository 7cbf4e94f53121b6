-- The number and the text of the mender's error.
use Rattle.std.specs.Prelude.{ℕ, List, codes}
use Rattle.mending.specs.declared.Error.{Error}
use Rattle.mending.specs.declared.Error.TheVariants.{BufferTooShort}

abbrev pub number_of : Error → ℕ
number_of BufferTooShort = 31

abbrev pub text_of : Error → List ℕ
text_of BufferTooShort = codes "the buffer must have as many bytes as the text, and at least one"
