-- The sentence of a refusal: what it says, with what it carries.
use Rattle.std.specs.Prelude.{ℕ, false, ◌/◌, ◌%◌, List, [], ◌∷◌, ◌++◌, codes, decimal}
use Rattle.std.specs.Fmt.{digit_glyph}
use Rattle.words.specs.declared.sentence.Carried.{Carried}
use Rattle.words.specs.declared.sentence.Carried.TheVariants.{Nothing, Byte, Component, Place}

-- A byte as two digits of base 16, in small letters.
abbrev pub two_digits : ℕ → List ℕ
two_digits b = digit_glyph false (b / 16) ∷ digit_glyph false (b % 16) ∷ []

-- A text with what is carried.
abbrev pub sentence : List ℕ → Carried → List ℕ
sentence text Nothing = text
sentence text (Byte b) = text ++ (codes ": 0x" ++ two_digits b)
sentence text (Component i) = codes "component " ++ (decimal i ++ (codes ": " ++ text))
sentence text (Place p) = text ++ (codes ", the one at place " ++ decimal p)
