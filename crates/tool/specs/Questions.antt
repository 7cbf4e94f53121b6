-- What the tool says of each name or text of a list.
use Rattle.std.specs.Prelude.{ℕ, Bool, true, List, ◌++◌, codes, is_none}
use Rattle.mending.specs.Mender.{mended}
use Rattle.path.specs.Rule.{component_rule}
use Rattle.tool.specs.Lines.{allows, check_line, component_line, ruling_by}
use Rattle.tool.specs.declared.questions.Question.{Question}
use Rattle.tool.specs.declared.questions.Question.TheVariants.{Check, Component, Mend}

-- The line.
abbrev pub line_for : Question → List ℕ → List ℕ
line_for (Check kind) text = check_line kind text
line_for (Component mode options) text = component_line (component_rule text mode options)
line_for Mend text = mended text ++ codes "\n"

-- Whether nothing is refused.
abbrev pub passes : Question → List ℕ → Bool
passes (Check kind) text = allows (ruling_by kind text)
passes (Component mode options) text = is_none (component_rule text mode options)
passes Mend text = true
