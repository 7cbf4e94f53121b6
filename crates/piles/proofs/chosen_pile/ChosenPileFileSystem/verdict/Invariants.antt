-- The layers that are left have the verdict.
use Rattle.std.proofs.Common.{◌≡◌, drop}
use Rattle.piles.specs.Piles.{judged}
use Rattle.piles.proofs.chosen_pile.ChosenPileFileSystem.verdict.Given as goal

abbrev pub invariant-loop-layer : goal.invariant-loop-layer
invariant-loop-layer l = judged l.self-inside.layers.items l.component l.mode ≡ judged (drop l.layer-index l.self-inside.layers.items) l.component l.mode
