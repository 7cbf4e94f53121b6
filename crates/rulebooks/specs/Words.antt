-- What the refusal of a rulebook says.
use Rattle.std.specs.Prelude.{ℕ, if◌then◌else◌, ◌||◌, List, ◌==◌, nat_lt}
use Rattle.words.specs.declared.sentence.Carried.{Carried}
use Rattle.words.specs.declared.sentence.Carried.TheVariants.{Nothing, Byte, Component}
use Rattle.words.specs.Sentences.{sentence}
use Rattle.words.specs.Texts.{text_by}
use Rattle.rulebooks.specs.declared.Refusal.{Refusal}

-- What a number and a value stand for: the invalid byte for 1, the index of the component for 21 and 28. A value of 1 that is
-- no byte is not named.
abbrev pub carried_by : ℕ → ℕ → Carried
carried_by n v =
    if n == 1 then (if nat_lt v 256 then Byte v else Nothing)
    else if n == 21 || n == 28 then Component v else Nothing

abbrev pub words_of : Refusal → List ℕ
words_of r = sentence (text_by r.number) (carried_by r.number r.value)
