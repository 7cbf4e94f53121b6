-- The report that the program writes for a list of texts, one to a line.
use Rattle.std.specs.Prelude.{ℕ, ◌+◌, ◌-◌, List, [], ◌∷◌, ◌++◌, length, codes, decimal}
use Rattle.std.specs.List.{flat_map}
use Rattle.tag.specs.Answers.{Answer, Value}
use Rattle.tag.specs.Answers.Answer.{allowed, refused}
use Rattle.lines.specs.Lines.{lines}
use Rattle.mending.specs.Mender.{mended}
use Rattle.reference.specs.Names.{partial_name}

-- The report's line for a text that the check of partial names answers so.
abbrev pub line_by : Answer Value → List ℕ → List ℕ
line_by allowed text = codes "kept " ++ (text ++ codes "\n")
line_by (refused n v) text =
    codes "mended " ++ (decimal n ++ (codes " " ++ (mended text ++ codes "\n")))

-- The report's line for a text.
abbrev pub line_of : List ℕ → List ℕ
line_of text = line_by (partial_name text) text

-- How many texts are kept by this answer: one or none.
abbrev pub kept_by : Answer Value → ℕ
kept_by allowed = 1
kept_by (refused n v) = 0

-- How many of these texts are kept.
abbrev pub kept : List (List ℕ) → ℕ
kept [] = 0
kept (t ∷ ts) = kept_by (partial_name t) + kept ts

-- The last line, for so many lines of which so many are kept.
abbrev pub summary : ℕ → ℕ → List ℕ
summary n k =
    codes "lines " ++ (decimal n ++ (codes " kept " ++ (decimal k
    ++ (codes " mended " ++ (decimal (n - k) ++ codes "\n")))))

-- The whole report for an input.
abbrev pub report_of : List ℕ → List ℕ
report_of s = flat_map line_of (lines s) ++ summary (length (lines s)) (kept (lines s))
