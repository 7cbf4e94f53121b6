-- What a file system compares components by.
use Rattle.std.specs.Prelude.{ℕ, List}

-- a list of numbers for each component
abbrev pub Key : Type 0
Key = List ℕ → List ℕ

-- the component itself
abbrev pub bytes_key : Key
bytes_key s = s
