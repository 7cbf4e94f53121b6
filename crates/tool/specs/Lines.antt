-- The lines that the tool writes.
use Rattle.std.specs.Prelude.{ℕ, Bool, true, false, if◌then◌else◌, List, ◌++◌, Some, None, Option, codes, decimal}
use Rattle.explanations.specs.declared.AnyRefusal.{AnyRefusal}
use Rattle.explanations.specs.Numbers.{number_of}
use Rattle.explanations.specs.Remedies.{carries_of, remedy_of}
use Rattle.explanations.specs.Texts.{text_by, text_of}
use Rattle.tag.specs.Answers.{Answer}
use Rattle.tag.specs.Answers.Answer.{allowed, refused}
use Rattle.rulebooks.specs.Kinds.{branch_names, complete_names, partial_names, tag_names, tree_paths}
use Rattle.rulebooks.specs.Words.{words_of}
use Rattle.tool.specs.declared.checks.Kind.{Kind}
use Rattle.tool.specs.declared.checks.Kind.TheVariants.{Tag, Partial, Complete, Branch, Path}

abbrev pub allowed_line : List ℕ
allowed_line = codes "allowed\n"

-- Refused, by this number and in these words.
abbrev pub refused_line : ℕ → List ℕ → List ℕ
refused_line n words = codes "refused " ++ (decimal n ++ (codes " " ++ (words ++ codes "\n")))

-- What the rulebook of a kind says of a name.
abbrev pub ruling_by : Kind → List ℕ → Answer ℕ
ruling_by Tag name = tag_names name
ruling_by Partial name = partial_names name
ruling_by Complete name = complete_names name
ruling_by Branch name = branch_names name
ruling_by Path name = tree_paths name

abbrev pub line_by : Answer ℕ → List ℕ
line_by allowed = allowed_line
line_by (refused n v) = refused_line n (words_of (record { number = n; value = v }))

abbrev pub check_line : Kind → List ℕ → List ℕ
check_line kind name = line_by (ruling_by kind name)

abbrev pub allows : Answer ℕ → Bool
allows allowed = true
allows (refused n v) = false

-- The line of a component, by the number of the refusal, if it is refused.
abbrev pub component_line : Option ℕ → List ℕ
component_line None = allowed_line
component_line (Some n) = refused_line n (text_by n)

-- Whether two names meet.
abbrev pub meet_line : Bool → List ℕ
meet_line b = if b then codes "meet\n" else codes "apart\n"

-- What a refusal says, what it carries and what to do about it.
abbrev pub explanation : AnyRefusal → List ℕ
explanation r =
    decimal (number_of r) ++ (codes " " ++ (text_of r
    ++ (codes "\ncarries: " ++ (carries_of r
    ++ (codes "\nwhat to do: " ++ (remedy_of r ++ codes "\n"))))))
