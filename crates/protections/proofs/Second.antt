-- The second character, as the list of parts has it.
use Rattle.std.proofs.Common.{◌≡◌, false, eqb, List, [], ◌∷◌, map, get_or, refl}
use Rattle.std.specs.Prelude.{slice_get}
use Rattle.std.specs.Option.{option_map_or}
use Rattle.characters.specs.declared.Part.{Part}
use Rattle.characters.specs.Standard.{point}

pub second_by : (ps : List Part) → option_map_or (λ p. eqb (point p) 58) (slice_get ps 1) false ≡ eqb (get_or (map point ps) 1 0) 58
second_by [] = refl
second_by (p ∷ []) = refl
second_by (p ∷ q ∷ ps) = refl
