-- The part that is taken is the first of those left, and where none is, no byte is left.
use Rattle.std.proofs.Common.{◌≡◌, ℕ, List, ◌++◌, Some, None, Option, ap, ◌∙◌}
use Rattle.std.specs.Option.{option_to_list}
use Rattle.std.specs.Prelude.{MatchOption, [], ◌∷◌}
use Rattle.characters.specs.declared.Part.{Part}
use Rattle.characters.specs.Reader.{parts, IsTaken}
use Rattle.characters.proofs.Steps.{parts_nil}
use Rattle.characters.proofs.sequence.CharactersIterator.next.Goals as goal

first_given : (s t : List ℕ) (r : Option Part) → parts s ≡ option_to_list r ++ parts t → IsTaken s r t
    → MatchOption r ((parts s ≡ []) × (parts t ≡ [])) (λ p. parts s ≡ p ∷ parts t)
first_given s t None h k = (ap parts k.0 ∙ parts_nil, ap parts k.1 ∙ parts_nil)
first_given s t (Some p) h k = h

pub returns-clause-steps : goal.returns-clause-steps
returns-clause-steps c = first_given _ _ c.take_part.result c.take_part.ensures.parts c.take_part.ensures.taken
