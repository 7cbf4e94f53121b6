-- The meaning of each kind of rulebook: its ruling on each byte string.
use Rattle.std.specs.Prelude.{ℕ, ◌+◌, if◌then◌else◌, List, [], ◌∷◌, length, ◌==◌}
use Rattle.tag.specs.Answers.{Answer, first_refusal}
use Rattle.tag.specs.Answers.Answer.{allowed, refused}
use Rattle.tag.specs.Components.{components, is_relative}
use Rattle.tag.specs.Names.{tag_name}
use Rattle.reference.specs.Names.{partial_name, complete_name, branch_name}
use Rattle.rulebooks.specs.Rulings.{ruling}

-- Kind 1: partial reference names.
abbrev pub partial_names : List ℕ → Answer ℕ
partial_names s = ruling (partial_name s)

-- Kind 2: complete reference names.
abbrev pub complete_names : List ℕ → Answer ℕ
complete_names s = ruling (complete_name s)

-- Kind 3: branch names.
abbrev pub branch_names : List ℕ → Answer ℕ
branch_names s = ruling (branch_name s)

-- Kind 4: tag names.
abbrev pub tag_names : List ℕ → Answer ℕ
tag_names s = ruling (tag_name s)

-- The ruling on the component c at the index i: an empty one is refused by 21, a relative one by 28.
abbrev pub component_ruling : ℕ → List ℕ → Answer ℕ
component_ruling i c =
    if length c == 0 then refused 21 i
    else if is_relative c then refused 28 i
    else allowed

-- The leftmost of these components that is refused decides, the first of them having the index i.
unfoldable pub leftmost : ℕ → List (List ℕ) → Answer ℕ
leftmost i [] = allowed
leftmost i (c ∷ cs) = first_refusal (component_ruling i c) (leftmost (i + 1) cs)

-- Kind 5: tree paths.
abbrev pub tree_paths : List ℕ → Answer ℕ
tree_paths s = leftmost 0 (components s)
