-- What a rulebook says of a byte string: it is allowed, or it is refused by a number and a value, which is a number as well.
use Rattle.std.specs.Prelude.{◌≡◌, ℕ, ◌≢◌}
use Rattle.tag.specs.Answers.{Answer, Value}
use Rattle.tag.specs.Answers.Answer.{allowed, refused}
use Rattle.tag.specs.Answers.Value.{nothing, byte, name}

-- What the refusal of a name carries, as a number: the invalid byte, and else 0.
abbrev pub as_number : Value → ℕ
as_number nothing = 0
as_number (byte b) = b
as_number (name s) = 0

-- The answer of a check of names, with what a refusal carries as a number.
abbrev pub ruling : Answer Value → Answer ℕ
ruling allowed = allowed
ruling (refused n v) = refused n (as_number v)

-- A refusal by the number n may have the value v: any where n is 1 (the invalid byte), 21 or 28 (the index of a component), and
-- else only 0.
abbrev pub IsValueFor : ℕ → ℕ → Type 0
IsValueFor n v = n ≢ 1 → n ≢ 21 → n ≢ 28 → v ≡ 0
