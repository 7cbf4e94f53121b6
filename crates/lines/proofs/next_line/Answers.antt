-- A line ends at the first byte 10, or where there is none, at the end.
use Rattle.std.proofs.Common.{◌≡◌, ℕ, ◌<◌, eqb, List, [], ◌∷◌, length, Some, None, Option, Bor, sym, refl, arith}
use Rattle.std.proofs.lemmas.Grind.{common_steps}
use Rattle.std.specs.Option.{option_map, unwrap_or}
use Rattle.std.specs.List.{after_first, before_first}
use Rattle.tag.specs.Splits.{split_once, two_parts}
use Rattle.lines.specs.Lines.{lines}
use Rattle.lines.proofs.FirstLine.{lines-split, lines-unsplit, parts-split, parts-unsplit}
use Rattle.lines.proofs.next_line.Goals as goal

-- The two parts of a split, or else the text and no byte.
first_and_rest : (s : List ℕ) (o : Option (Bor (List ℕ) × Bor (List ℕ))) (d : Bor (List ℕ) × Bor (List ℕ)) → 0 < length s
    → d.0.now ≡ s → d.1.now ≡ [] → option_map two_parts o ≡ split_once 10 s
    → lines s ≡ (unwrap_or o d).0.now ∷ lines (unwrap_or o d).1.now
unfolding lines
first_and_rest s (Some p) d some text none e = lines-split s (two_parts p) (sym e)
first_and_rest s None d some text none e = let h = lines-unsplit s some (sym e) in rw (text, none) h

pub returns-clause-splits : goal.returns-clause-splits
returns-clause-splits c =
    rw c.unwrap_or.ensures (first_and_rest c.args.text.now c.split_once.result _ (grind (arith, common_steps)) refl refl c.split_once.ensures)

-- They are what stands before and after the first byte 10.
before_and_after : (s : List ℕ) (o : Option (Bor (List ℕ) × Bor (List ℕ))) (d : Bor (List ℕ) × Bor (List ℕ))
    → d.0.now ≡ s → d.1.now ≡ [] → option_map two_parts o ≡ split_once 10 s
    → ((unwrap_or o d).0.now ≡ before_first (λ b. eqb b 10) s) × ((unwrap_or o d).1.now ≡ after_first (λ b. eqb b 10) s)
before_and_after s (Some p) d text none e = parts-split s (two_parts p) (sym e)
before_and_after s None d text none e = let h = parts-unsplit s (sym e) in rw (text, none) h

pub returns-clause-parts : goal.returns-clause-parts
returns-clause-parts c = rw c.unwrap_or.ensures (before_and_after c.args.text.now c.split_once.result _ refl refl c.split_once.ensures)
