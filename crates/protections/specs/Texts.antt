-- What each verdict says.
use Rattle.std.specs.Prelude.{ℕ, List, codes}
use Rattle.protections.specs.declared.rules.Verdict.{Verdict}
use Rattle.protections.specs.declared.rules.Verdict.TheVariants.{PathSeparator, WindowsPathPrefix, WindowsReservedName, WindowsIllegalCharacter, DotGitDir, SymlinkedGitModules}

abbrev pub text_of : Verdict → List ℕ
text_of PathSeparator = codes "the name contains a slash or a backslash"
text_of WindowsPathPrefix = codes "the name begins like a Windows drive, a character and a colon"
text_of WindowsReservedName = codes "the name is reserved for a device on Windows"
text_of WindowsIllegalCharacter =
    codes "the name has a character that Windows does not allow, or ends in a dot or a space"
text_of DotGitDir = codes "the name stands for .git, which belongs to Git"
text_of SymlinkedGitModules =
    codes "the name stands for .gitmodules, which may not be a symbolic link"
