-- The scanner's state, and the bytes that it passes at once. Only the scanner's functions cite these definitions: no answer
-- of a check rests on them.
use Rattle.std.specs.Prelude.{ℕ, Bool, if◌then◌else◌, not, ◌||◌, ◌==◌}
use Rattle.std.specs.Str.{byte}
use Rattle.tag.specs.Bytes.{invalid}
use Rattle.tag.specs.declared.scanner.Scanner.{Scanner}
use Rattle.tag.specs.declared.scanner.Scanner.TheVariants.{AfterDot, AfterSlash, AfterAt, AfterOther}

-- The state that the byte b leaves.
abbrev pub after : ℕ → Scanner
after b =
    if b == byte "." then AfterDot
    else if b == byte "/" then AfterSlash
    else if b == byte "@" then AfterAt
    else AfterOther

-- Whether b is ordinary: the rules for a byte and the one before it name it as neither. It is not invalid, and none of
-- * . / @ {
abbrev pub ordinary : ℕ → Bool
ordinary b =
    not (invalid b || (b == byte "*" || (b == byte "." || (b == byte "/"
    || (b == byte "@" || b == byte "{")))))
