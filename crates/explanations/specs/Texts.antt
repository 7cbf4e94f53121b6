-- What each refusal says: its text stands with its error.
use Rattle.std.specs.Prelude.{ℕ, List, [], Some, None, Option}
use Rattle.words.specs.Texts as names
use Rattle.mending.specs.Errors as mender
use Rattle.protections.specs.Texts as verdicts
use Rattle.filesystems.specs.Refusal as pairs
use Rattle.piles.specs.Refusal as piles
use Rattle.register.specs.Words.{state_text}
use Rattle.explanations.specs.Numbers.{known}
use Rattle.explanations.specs.declared.AnyRefusal.{AnyRefusal}
use Rattle.explanations.specs.declared.AnyRefusal.TheVariants.{Name, Component, Mender, Pair, Pile, Register}

abbrev pub text_of : AnyRefusal → List ℕ
text_of (Name r) = names.text_of r
text_of (Component v) = verdicts.text_of v
text_of (Mender e) = mender.text_of e
text_of (Pair e) = pairs.text_of e
text_of (Pile e) = piles.text_of e
text_of (Register f) = state_text f

-- What is said of a number, which is nothing where no refusal has it.
abbrev pub said : Option AnyRefusal → List ℕ
said (Some r) = text_of r
said None = []

abbrev pub text_by : ℕ → List ℕ
text_by n = said (known n)
