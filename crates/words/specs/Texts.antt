-- What the refusal of a name says, without what it carries.
use Rattle.std.specs.Prelude.{ℕ, List, Some, None, Option, codes}
use Rattle.words.specs.declared.names.NameRefusal.{NameRefusal}
use Rattle.words.specs.declared.names.NameRefusal.TheVariants.{InvalidByte, StartsWithSlash, RepeatedSlash, RepeatedDot, LockFileSuffix, ReflogPortion, Asterisk, StartsWithDot, EndsWithDot, EndsWithSlash, Empty, SomeLowercase, Reserved, EmptyComponent, RelativeComponent}
use Rattle.words.specs.Numbers.{known}

abbrev pub text_of : NameRefusal → List ℕ
text_of InvalidByte = codes "a name may not have this byte"
text_of StartsWithSlash = codes "a name may not start with a slash"
text_of RepeatedSlash = codes "a name may not have two slashes in a row"
text_of RepeatedDot = codes "a name may not have two dots in a row"
text_of LockFileSuffix = codes "no part of a name may end in .lock"
text_of ReflogPortion = codes "a name may not have an at sign before an opening brace"
text_of Asterisk = codes "a name may not have an asterisk"
text_of StartsWithDot = codes "no part of a name may start with a dot"
text_of EndsWithDot = codes "a name may not end with a dot"
text_of EndsWithSlash = codes "a name may not end with a slash"
text_of Empty = codes "a name may not be empty"
text_of SomeLowercase =
    codes "a name with no slash must be of capital letters and underscores, like HEAD"
text_of Reserved = codes "this name is reserved"
text_of EmptyComponent = codes "the name is empty"
text_of RelativeComponent = codes "the names . and .. mean a directory and the one above it"

-- What is said of a number that is none of these: a rulebook of another crate gives numbers of its own.
abbrev pub other_text : List ℕ
other_text = codes "the rulebook forbids the name by a rule of its own"

abbrev pub said : Option NameRefusal → List ℕ
said (Some r) = text_of r
said None = other_text

-- What is said of a number.
abbrev pub text_by : ℕ → List ℕ
text_by n = said (known n)
