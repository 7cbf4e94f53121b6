-- The refusals of names, by their numbers.
use Rattle.std.specs.Prelude.{ℕ, List, [], ◌∷◌, Option, ◌==◌}
use Rattle.std.specs.List.{find}
use Rattle.words.specs.declared.names.NameRefusal.{NameRefusal}
use Rattle.words.specs.declared.names.NameRefusal.TheVariants.{InvalidByte, StartsWithSlash, RepeatedSlash, RepeatedDot, LockFileSuffix, ReflogPortion, Asterisk, StartsWithDot, EndsWithDot, EndsWithSlash, Empty, SomeLowercase, Reserved, EmptyComponent, RelativeComponent}

-- The number by which rulebooks refuse.
abbrev pub number_of : NameRefusal → ℕ
number_of InvalidByte = 1
number_of StartsWithSlash = 2
number_of RepeatedSlash = 3
number_of RepeatedDot = 4
number_of LockFileSuffix = 5
number_of ReflogPortion = 6
number_of Asterisk = 7
number_of StartsWithDot = 8
number_of EndsWithDot = 9
number_of EndsWithSlash = 10
number_of Empty = 11
number_of SomeLowercase = 12
number_of Reserved = 13
number_of EmptyComponent = 21
number_of RelativeComponent = 28

-- All of them.
abbrev pub all : List NameRefusal
all =
    InvalidByte ∷ StartsWithSlash ∷ RepeatedSlash ∷ RepeatedDot ∷ LockFileSuffix ∷ ReflogPortion
    ∷ Asterisk ∷ StartsWithDot ∷ EndsWithDot ∷ EndsWithSlash ∷ Empty ∷ SomeLowercase ∷ Reserved
    ∷ EmptyComponent ∷ RelativeComponent ∷ []

-- The refusal of a number, if it is one of these.
abbrev pub known : ℕ → Option NameRefusal
known n = find (λ r. number_of r == n) all
