-- The words of a refusal by its number and value, and what a call that writes them does.
use Rattle.std.specs.Prelude.{ℕ, if◌then◌else◌, List, ◌++◌, length, drop, Ok, Err, Result, ◌==◌, ◌&&◌, nat_le, nat_lt}
use Rattle.mending.specs.declared.Error.{Error}
use Rattle.mending.specs.declared.Error.TheVariants.{BufferTooShort}
use Rattle.words.specs.Sentences.{sentence}
use Rattle.words.specs.declared.sentence.Carried.{Carried}
use Rattle.words.specs.declared.sentence.Carried.TheVariants.{Byte, Nothing}
use Rattle.explanations.specs.Texts.{text_by}

-- What a refusal carries for a caller in C: 1 the byte, where the value is one.
abbrev pub carried_by : ℕ → ℕ → Carried
carried_by n v = if n == 1 && nat_lt v 256 then Byte v else Nothing

-- The words of a refusal by its number and value: its sentence, which is empty for a number that is
-- no refusal.
abbrev pub words_of : ℕ → ℕ → List ℕ
words_of n v = sentence (text_by n) (carried_by n v)

-- The length of a text that is written to a buffer of n bytes, or an error where it is longer.
abbrev pub written : List ℕ → ℕ → Result ℕ Error
written text n = if nat_le (length text) n then Ok (length text) else Err BufferTooShort

-- The buffer with the text at its front and later bytes as they were. Where the text is longer
-- than the buffer, all of it is as it was.
abbrev pub with_text : List ℕ → List ℕ → List ℕ
with_text text before =
    if nat_le (length text) (length before) then text ++ drop (length text) before else before
