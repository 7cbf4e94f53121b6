-- What each refusal carries besides its number, and what to do about it.
use Rattle.std.specs.Prelude.{ℕ, List, codes}
use Rattle.words.specs.declared.names.NameRefusal.{NameRefusal}
use Rattle.words.specs.declared.names.NameRefusal.TheVariants.{InvalidByte, StartsWithSlash, RepeatedSlash, RepeatedDot, LockFileSuffix, ReflogPortion, Asterisk, StartsWithDot, EndsWithDot, EndsWithSlash, Empty, SomeLowercase, Reserved, EmptyComponent, RelativeComponent}
use Rattle.protections.specs.declared.rules.Verdict.{Verdict}
use Rattle.protections.specs.declared.rules.Verdict.TheVariants.{PathSeparator, WindowsPathPrefix, WindowsReservedName, WindowsIllegalCharacter, DotGitDir, SymlinkedGitModules}
use Rattle.mending.specs.declared.Error.TheVariants.{BufferTooShort}
use Rattle.filesystems.specs.declared.refusal.DeclareError.TheVariants.{ComponentTooLong, TooManyPairs}
use Rattle.piles.specs.declared.refusal.PileError.TheVariants.{TooManyLayers}
use Rattle.register.specs.declared.faults.StateFault.{StateFault}
use Rattle.register.specs.declared.faults.StateFault.TheVariants.{Full, Met, NotKept, TooLong}
use Rattle.explanations.specs.declared.AnyRefusal.{AnyRefusal}
use Rattle.explanations.specs.declared.AnyRefusal.TheVariants.{Name, Component, Mender, Pair, Pile, Register}

abbrev pub name_carries : NameRefusal → List ℕ
name_carries InvalidByte =
    codes "the byte: one below 0x20, 0x7F, a space, a backslash or one of ^ : [ ? ~"
name_carries StartsWithSlash = codes "nothing"
name_carries RepeatedSlash = codes "nothing"
name_carries RepeatedDot = codes "nothing"
name_carries LockFileSuffix = codes "nothing"
name_carries ReflogPortion = codes "nothing"
name_carries Asterisk = codes "nothing"
name_carries StartsWithDot = codes "nothing"
name_carries EndsWithDot = codes "nothing"
name_carries EndsWithSlash = codes "nothing"
name_carries Empty = codes "nothing"
name_carries SomeLowercase = codes "nothing"
name_carries Reserved = codes "the name"
name_carries EmptyComponent = codes "in a tree path the index of the component, counted from 0"
name_carries RelativeComponent = codes "in a tree path the index of the component, counted from 0"

abbrev pub register_carries : StateFault → List ℕ
register_carries TooLong = codes "nothing"
register_carries (Met p) = codes "the place of the first such name, counted from 0"
register_carries Full = codes "nothing"
register_carries NotKept = codes "nothing"

abbrev pub carries_of : AnyRefusal → List ℕ
carries_of (Name r) = name_carries r
carries_of (Component v) = codes "in a register the index of the component, counted from 0"
carries_of (Mender e) = codes "nothing"
carries_of (Pair e) = codes "nothing"
carries_of (Pile e) = codes "nothing"
carries_of (Register f) = register_carries f

abbrev pub name_remedy : NameRefusal → List ℕ
name_remedy InvalidByte =
    codes "leave the byte out or write another in its place; mending puts a dash there"
name_remedy StartsWithSlash = codes "leave out the slash at the start"
name_remedy RepeatedSlash = codes "keep one of the slashes"
name_remedy RepeatedDot = codes "keep one of the dots"
name_remedy LockFileSuffix = codes "leave out .lock at the end of each part between slashes"
name_remedy ReflogPortion = codes "leave out the at sign or the brace"
name_remedy Asterisk = codes "leave out the asterisk; mending puts a dash there"
name_remedy StartsWithDot = codes "leave out the dot at the start of each part between slashes"
name_remedy EndsWithDot = codes "leave out the dot at the end"
name_remedy EndsWithSlash = codes "leave out the slash at the end"
name_remedy Empty = codes "give a name of at least one byte"
name_remedy SomeLowercase =
    codes "put the name below another, as refs/heads/main, or use no other bytes"
name_remedy Reserved = codes "choose another name: Git gives this one a meaning of its own"
name_remedy EmptyComponent =
    codes "leave out slashes at the start and the end, and all but one in a row"
name_remedy RelativeComponent = codes "give the name of the directory itself"

abbrev pub component_remedy : Verdict → List ℕ
component_remedy PathSeparator =
    codes "leave out the slash or backslash: a component is one part of a path"
component_remedy WindowsPathPrefix = codes "choose a name whose second character is no colon"
component_remedy WindowsReservedName =
    codes "choose another name: not one such as aux, con, com1 or lpt1, alone or before a dot or a colon"
component_remedy WindowsIllegalCharacter =
    codes "leave out the character, or the dot or space at the end"
component_remedy DotGitDir = codes "choose a name that none of these storages takes for .git"
component_remedy SymlinkedGitModules =
    codes "give the link another name, or keep a file in its place"

abbrev pub register_remedy : StateFault → List ℕ
register_remedy TooLong = codes "shorten it to 255 bytes"
register_remedy (Met p) = codes "choose another name, or rename or remove the kept one first"
register_remedy Full =
    codes "remove a name that is not used, or keep the new one in another register"
register_remedy NotKept = codes "give the name as it is kept, byte for byte"

abbrev pub remedy_of : AnyRefusal → List ℕ
remedy_of (Name r) = name_remedy r
remedy_of (Component v) = component_remedy v
remedy_of (Mender BufferTooShort) =
    codes "pass a buffer of as many bytes as the text has, and at least one"
remedy_of (Pair ComponentTooLong) = codes "declare components of at most 32 bytes"
remedy_of (Pair TooManyPairs) =
    codes "declare at most 16 pairs: one that is declared twice counts twice"
remedy_of (Pile TooManyLayers) = codes "name each layer once: a second time it changes nothing"
remedy_of (Register f) = register_remedy f
