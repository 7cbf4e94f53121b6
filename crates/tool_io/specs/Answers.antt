-- Which names a hint is given for.
use Rattle.std.specs.Prelude.{ℕ, Bool, List, codes, nat_eq}
use Rattle.std.specs.List.{ends_with}

-- whether a name ends in the byte 0x0D
abbrev pub ends_in_return : List ℕ → Bool
ends_in_return name = ends_with nat_eq name (codes "\r")
