-- The number and the value of each error, and the answer that a result stands for.
use Rattle.std.specs.Prelude.{Ok, Err, Result}
use Rattle.tag.specs.Answers.{Answer, Value}
use Rattle.tag.specs.Answers.Answer.{allowed, refused}
use Rattle.tag.specs.Answers.Value.{nothing, byte}
use Rattle.tag.specs.declared.Error.{Error}
use Rattle.tag.specs.declared.Error.TheVariants.{InvalidByte, StartsWithSlash, RepeatedSlash, RepeatedDot, LockFileSuffix, ReflogPortion, Asterisk, StartsWithDot, EndsWithDot, EndsWithSlash, Empty}

-- The refusal that an error stands for.
abbrev pub refusal : Error → Answer Value
refusal (InvalidByte b) = refused 1 (byte b)
refusal StartsWithSlash = refused 2 nothing
refusal RepeatedSlash = refused 3 nothing
refusal RepeatedDot = refused 4 nothing
refusal LockFileSuffix = refused 5 nothing
refusal ReflogPortion = refused 6 nothing
refusal Asterisk = refused 7 nothing
refusal StartsWithDot = refused 8 nothing
refusal EndsWithDot = refused 9 nothing
refusal EndsWithSlash = refused 10 nothing
refusal Empty = refused 11 nothing

-- The answer that a result stands for.
abbrev pub answer_of : {T : Type 0} → Result T Error → Answer Value
answer_of (Ok v) = allowed
answer_of (Err e) = refusal e
