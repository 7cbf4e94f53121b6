-- The text of a component's error is that of its number.
use Rattle.std.proofs.Common.{◌≡◌, refl}
use Rattle.path.specs.Answer.{number_of, text_of}
use Rattle.path.specs.declared.Error.{Error}
use Rattle.path.specs.declared.Error.TheVariants.{Empty, PathSeparator, WindowsPathPrefix, WindowsReservedName, WindowsIllegalCharacter, DotGitDir, SymlinkedGitModules, Relative}
use Rattle.explanations.specs.Texts.{text_by}

pub text_by_number : (e : Error) → text_of e ≡ text_by (number_of e)
text_by_number Empty = refl
text_by_number PathSeparator = refl
text_by_number WindowsPathPrefix = refl
text_by_number WindowsReservedName = refl
text_by_number WindowsIllegalCharacter = refl
text_by_number DotGitDir = refl
text_by_number SymlinkedGitModules = refl
text_by_number Relative = refl
