-- What declaring a pair answers, as a number or none, and which pairs are declared then.
use Rattle.std.specs.Prelude.{ℕ, if◌then◌else◌, ◌||◌, List, [], ◌∷◌, ◌++◌, length, Ok, Err, Some, None, Option, codes, Result, nat_le, nat_lt}
use Rattle.filesystems.specs.declared.refusal.DeclareError.{DeclareError}
use Rattle.filesystems.specs.declared.refusal.DeclareError.TheVariants.{ComponentTooLong, TooManyPairs}
use Rattle.filesystems.specs.declared.storage.TheConstants.{LONGEST, MOST}
use Rattle.filesystems.specs.Pairs.{Pairs}

-- the number of an error
abbrev pub number_of : DeclareError → ℕ
number_of ComponentTooLong = 33
number_of TooManyPairs = 44

-- what is read out
abbrev pub text_of : DeclareError → List ℕ
text_of ComponentTooLong = codes "a declared name is longer than 32 bytes"
text_of TooManyPairs = codes "16 pairs of names are already declared"

-- the number of the refusal, if the answer is one
abbrev pub refusal_of : Result (Unit {0}) DeclareError → Option ℕ
refusal_of (Ok u) = None
refusal_of (Err e) = Some (number_of e)

-- 33 for a component longer than LONGEST bytes, then 44 when MOST pairs are already declared
abbrev pub declare_rule : Pairs → List ℕ → List ℕ → Option ℕ
declare_rule pairs left right =
    if nat_lt LONGEST (length left) || nat_lt LONGEST (length right) then Some 33
    else if nat_le MOST (length pairs) then Some 44 else None

-- with no refusal the pair is added, and else nothing is altered
abbrev pub pairs_after : Option ℕ → Pairs → List ℕ → List ℕ → Pairs
pairs_after None pairs left right = pairs ++ (left, right) ∷ []
pairs_after (Some n) pairs left right = pairs
