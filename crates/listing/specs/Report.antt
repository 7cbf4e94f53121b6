-- The report of a list of lines: what came of each, and the names that are kept then.
use Rattle.std.specs.Prelude.{ℕ, if◌then◌else◌, Bool, true, false, List, [], ◌∷◌, ◌++◌, map, length, Some, None, is_some, codes, decimal, Option, nat_le}
use Rattle.std.specs.List.{filter_map, flat_map}
use Rattle.protections.specs.declared.rules.Mode.{Mode}
use Rattle.lines.specs.Lines.{lines}
use Rattle.register_model.specs.Calls.{Call, Kept, Meaning, Outcome, State, no_entries, number_of}
use Rattle.register_model.specs.Calls.Outcome.{accepted, declined}
use Rattle.register_model.specs.Entries.{Entry}
use Rattle.register_model.specs.Claim.{Done}
use Rattle.register_model.specs.Histories.{answers, history, state_left}
use Rattle.runs.specs.Campus.{campus}
use Rattle.listing.specs.declared.TheConstants.{LONGEST_INPUT}
use Rattle.listing.specs.Reading.{read_line}

-- Of each of these lines, whether it is a call.
abbrev pub are_calls : List (List ℕ) → List Bool
are_calls ls = map (λ l. is_some (read_line l)) ls

-- The calls among these lines.
abbrev pub calls_in : List (List ℕ) → List Call
calls_in ls = filter_map read_line ls

-- The report's line for an answer.
abbrev pub answer_line : Outcome → List ℕ
answer_line (accepted p) = codes "ok\n"
answer_line (declined f) = codes "refused " ++ (decimal (number_of f) ++ codes "\n")

-- The report's line for a line that is no call.
abbrev pub unread_line : List ℕ
unread_line = codes "unread\n"

-- The report's line for the answer of a line's call, if there is one; private functions alone cite it.
abbrev pub line_for : Option Outcome → List ℕ
line_for None = unread_line
line_for (Some o) = answer_line o

-- The report's lines for lines of which each is a call or is not, from the answers of the calls: each call has the first one
-- that is left.
unfoldable pub answer_lines : List Bool → List Outcome → List ℕ
answer_lines [] os = []
answer_lines (false ∷ bs) os = unread_line ++ answer_lines bs os
answer_lines (true ∷ bs) [] = unread_line ++ answer_lines bs []
answer_lines (true ∷ bs) (o ∷ os) = answer_line o ++ answer_lines bs os

-- The report's line for an entry.
abbrev pub entry_line : Entry (Option Mode) → List ℕ
entry_line e = decimal e.number ++ (codes " " ++ (e.name ++ codes "\n"))

-- A word and a count, on a line.
abbrev pub count_line : List ℕ → ℕ → List ℕ
count_line word n = word ++ (codes " " ++ (decimal n ++ codes "\n"))

-- The report for lines of which each is a call or is not, the answers of the calls and the entries that are kept.
abbrev pub report_for : List Bool → List Outcome → Kept → List ℕ
report_for bs os es =
    count_line (codes "answers") (length bs) ++ (answer_lines bs os
    ++ (count_line (codes "names") (length es) ++ flat_map entry_line es))

-- The answers of the calls among the lines of an input, made one by one from the state s on.
abbrev pub answers_to : Meaning → State → List ℕ → List Outcome
answers_to m s input = answers m s (calls_in (lines input))

-- The state that they leave.
abbrev pub left_by : Meaning → State → List ℕ → State
left_by m s input = state_left m s (calls_in (lines input))

-- The report of them.
abbrev pub report_from : Meaning → State → List ℕ → List ℕ
report_from m s input =
    report_for (are_calls (lines input)) (answers_to m s input) (left_by m s input).kept

-- They and their answers, the latest first.
abbrev pub history_of : Meaning → State → List ℕ → List Done
history_of m s input = history (calls_in (lines input)) (answers_to m s input)

-- What is written for an input that is too long.
abbrev pub too_long : List ℕ
too_long = codes "too long\n"

-- The report for an input. One of more bytes than are taken is not listed.
unfoldable pub report_of : List ℕ → List ℕ
report_of s =
    if nat_le (length s) LONGEST_INPUT then report_from campus no_entries s else too_long
