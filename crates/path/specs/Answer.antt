-- The answer of `component` as a number or none, and what its errors say.
use Rattle.std.specs.Prelude.{ℕ, List, Ok, Err, Some, None, Option, Result}
use Rattle.std.specs.Borrow.{Bor}
use Rattle.words.specs.Texts as names
use Rattle.words.specs.declared.names.NameRefusal.TheVariants.{EmptyComponent, RelativeComponent}
use Rattle.protections.specs.Texts as verdicts
use Rattle.protections.specs.declared.rules.Verdict.TheVariants as variants
use Rattle.path.specs.declared.Error.{Error}
use Rattle.path.specs.declared.Error.TheVariants.{Empty, PathSeparator, WindowsPathPrefix, WindowsReservedName, WindowsIllegalCharacter, DotGitDir, SymlinkedGitModules, Relative}

-- the number of an error
abbrev pub number_of : Error → ℕ
number_of Empty = 21
number_of PathSeparator = 22
number_of WindowsPathPrefix = 23
number_of WindowsReservedName = 24
number_of WindowsIllegalCharacter = 25
number_of DotGitDir = 26
number_of SymlinkedGitModules = 27
number_of Relative = 28

-- what an error says: the text of a verdict, or of a tree path's refusal
abbrev pub text_of : Error → List ℕ
text_of Empty = names.text_of EmptyComponent
text_of PathSeparator = verdicts.text_of variants.PathSeparator
text_of WindowsPathPrefix = verdicts.text_of variants.WindowsPathPrefix
text_of WindowsReservedName = verdicts.text_of variants.WindowsReservedName
text_of WindowsIllegalCharacter = verdicts.text_of variants.WindowsIllegalCharacter
text_of DotGitDir = verdicts.text_of variants.DotGitDir
text_of SymlinkedGitModules = verdicts.text_of variants.SymlinkedGitModules
text_of Relative = names.text_of RelativeComponent

-- the number of the refusal, if the answer is one
abbrev pub refusal_of : Result (Bor (List ℕ)) Error → Option ℕ
refusal_of (Ok view) = None
refusal_of (Err e) = Some (number_of e)
