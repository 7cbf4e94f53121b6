-- The components that an iterator over them has still to give.
use Rattle.std.specs.Prelude.{ℕ, List, [], Option, Some, None}
use Rattle.std.specs.Borrow.{Bor}
use Rattle.tag.specs.Components.{components}
use Rattle.tag.specs.declared.components.Components.{Components}

-- The components of what is left of a name, none where nothing is.
abbrev pub components_of : Option (Bor (List ℕ)) → List (List ℕ)
components_of None = []
components_of (Some s) = components s.now

-- The components that are still to come.
abbrev pub components_left : Components → List (List ℕ)
components_left c = components_of c.rest
