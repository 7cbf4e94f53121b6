use Rattle.std.proofs.Common.{rules}
use Rattle.std.proofs.lemmas.Fmt.{hex_byte}
use Rattle.std.specs.Prelude.{false}
use Rattle.words.proofs.sentence.SentenceDisplay.fmt.Goals as goal

pub returns-in-Byte-clause-writes : goal.returns-in-Byte-clause-writes
returns-in-Byte-clause-writes g c =
    search (rules, hex_byte false c.in-Byte.byte (search rules))
