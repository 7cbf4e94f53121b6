-- What the refusal of a name says.
use Rattle.std.specs.Prelude.{ℕ, List, []}
use Rattle.words.specs.declared.sentence.Carried.{Carried}
use Rattle.words.specs.declared.sentence.Carried.TheVariants.{Nothing, Byte}
use Rattle.words.specs.Sentences.{sentence}
use Rattle.words.specs.Texts.{text_by}
use Rattle.tag.specs.Answers.{Answer, Value}
use Rattle.tag.specs.Answers.Answer.{allowed, refused}
use Rattle.tag.specs.Answers.Value.{nothing, byte, name}

-- An invalid byte is named, and a refused name is not: it need not be text.
abbrev pub named : Value → Carried
named nothing = Nothing
named (byte b) = Byte b
named (name s) = Nothing

-- The words of an answer, none where the check allows.
abbrev pub words_of : Answer Value → List ℕ
words_of allowed = []
words_of (refused n v) = sentence (text_by n) (named v)
