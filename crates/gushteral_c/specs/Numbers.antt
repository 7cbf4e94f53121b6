-- Answers as numbers, and numbers as settings.
use Rattle.std.specs.Prelude.{ℕ, Bool, if◌then◌else◌, not, Some, None, Ok, Err, Option, Result, ◌==◌}
use Rattle.tag.specs.Answers.{Answer, Value}
use Rattle.tag.specs.Answers.Answer.{allowed, refused}
use Rattle.tag.specs.Answers.Value.{nothing, byte, name}
use Rattle.mending.specs.Errors.{number_of}
use Rattle.mending.specs.declared.Error.{Error}
use Rattle.path.specs.declared.Options.{Options}
use Rattle.protections.specs.declared.rules.Mode.{Mode}
use Rattle.protections.specs.declared.rules.Mode.TheVariants.{Symlink}

-- The value of a name's answer as a number: the invalid byte, and else 0.
abbrev pub value_of : Answer Value → ℕ
value_of allowed = 0
value_of (refused n nothing) = 0
value_of (refused n (byte b)) = b
value_of (refused n (name s)) = 0

-- The number and the length of the answer of a call that writes a text: the number is 0 where the
-- text is written, and the length is 0 where the call is refused.
abbrev pub text_number : Result ℕ Error → ℕ
text_number (Ok n) = 0
text_number (Err e) = number_of e

abbrev pub text_length : Result ℕ Error → ℕ
text_length (Ok n) = n
text_length (Err e) = 0

-- A number as a flag: 0 is off, and any other is on.
abbrev pub on : ℕ → Bool
on n = not (n == 0)

-- A number as a mode: 0 is absent, and any other is a symbolic link.
abbrev pub mode_by : ℕ → Option Mode
mode_by n = if n == 0 then None else Some Symlink

-- The settings by three numbers.
abbrev pub options_by : ℕ → ℕ → ℕ → Options
options_by w h n = record { protect_windows = on w; protect_hfs = on h; protect_ntfs = on n }
