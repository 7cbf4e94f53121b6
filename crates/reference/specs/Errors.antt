-- The number and the value of each error, and the answer that a result stands for.
use Rattle.std.specs.Prelude.{◌≡◌, ℕ, ◌⊎◌, List, Some, None, Ok, Err, Option, Result}
use Rattle.std.specs.Borrow.{Bor}
use Rattle.tag.specs.Answers.{Answer, Value, number_of}
use Rattle.tag.specs.Answers.Answer.{allowed, refused}
use Rattle.tag.specs.Answers.Value.{nothing, byte, name}
use Rattle.tag.specs.declared.Error as tag
use Rattle.tag.specs.declared.Error.TheVariants as tags
use Rattle.reference.specs.declared.Error.{Error}
use Rattle.reference.specs.declared.Error.TheVariants.{InvalidByte, StartsWithSlash, RepeatedSlash, RepeatedDot, LockFileSuffix, ReflogPortion, Asterisk, StartsWithDot, EndsWithDot, EndsWithSlash, Empty, SomeLowercase, Reserved}

-- The refusal that an error stands for.
abbrev pub refusal : Error → Answer Value
refusal (InvalidByte b) = refused 1 (byte b)
refusal StartsWithSlash = refused 2 nothing
refusal RepeatedSlash = refused 3 nothing
refusal RepeatedDot = refused 4 nothing
refusal LockFileSuffix = refused 5 nothing
refusal ReflogPortion = refused 6 nothing
refusal Asterisk = refused 7 nothing
refusal StartsWithDot = refused 8 nothing
refusal EndsWithDot = refused 9 nothing
refusal EndsWithSlash = refused 10 nothing
refusal Empty = refused 11 nothing
refusal SomeLowercase = refused 12 nothing
refusal (Reserved v) = refused 13 (name v.now)

-- A tag name's error as a reference name's.
abbrev pub from_tag : tag.Error → Error
from_tag (tags.InvalidByte b) = InvalidByte b
from_tag tags.StartsWithSlash = StartsWithSlash
from_tag tags.RepeatedSlash = RepeatedSlash
from_tag tags.RepeatedDot = RepeatedDot
from_tag tags.LockFileSuffix = LockFileSuffix
from_tag tags.ReflogPortion = ReflogPortion
from_tag tags.Asterisk = Asterisk
from_tag tags.StartsWithDot = StartsWithDot
from_tag tags.EndsWithDot = EndsWithDot
from_tag tags.EndsWithSlash = EndsWithSlash
from_tag tags.Empty = Empty

-- The tag name's error that e is, and none exactly for the two numbers that tag names lack.
abbrev pub Shared : Option tag.Error → Error → Type 0
Shared (Some t) e = e ≡ from_tag t
Shared None e = (number_of (refusal e) ≡ 12) ⊎ (number_of (refusal e) ≡ 13)

-- The answer that a result stands for.
abbrev pub answer_of : {T : Type 0} → Result T Error → Answer Value
answer_of (Ok v) = allowed
answer_of (Err e) = refusal e

-- What the result borrows, an allowed name or a reserved one, is the reference x itself.
abbrev pub Lends : Bor (List ℕ) → Result (Bor (List ℕ)) Error → Type 0
Lends x (Ok v) = v ≡ x
Lends x (Err (Reserved v)) = v ≡ x
Lends x (Err (InvalidByte b)) = Unit {0}
Lends x (Err StartsWithSlash) = Unit {0}
Lends x (Err RepeatedSlash) = Unit {0}
Lends x (Err RepeatedDot) = Unit {0}
Lends x (Err LockFileSuffix) = Unit {0}
Lends x (Err ReflogPortion) = Unit {0}
Lends x (Err Asterisk) = Unit {0}
Lends x (Err StartsWithDot) = Unit {0}
Lends x (Err EndsWithDot) = Unit {0}
Lends x (Err EndsWithSlash) = Unit {0}
Lends x (Err Empty) = Unit {0}
Lends x (Err SomeLowercase) = Unit {0}
