-- What a pile means does not depend on the call: the first verdict from the top, and what lies together by a layer's key or in the bottom.
use Rattle.piles.proofs.First.{judged_first}
use Rattle.piles.proofs.Together.{together-decides}
use Rattle.piles.proofs.chosen_pile.ChosenPile.new.Goals as goal

pub returns-in_err-layers-clause-first : goal.returns-in_err-layers-clause-first
returns-in_err-layers-clause-first c = λ pile s mode. judged_first s mode pile.layers

pub returns-clause-first : goal.returns-clause-first
returns-clause-first c = λ pile s mode. judged_first s mode pile.layers

pub returns-in_err-layers-clause-confuses : goal.returns-in_err-layers-clause-confuses
returns-in_err-layers-clause-confuses c = λ pile a b. together-decides a b pile.layers pile.bottom

pub returns-clause-confuses : goal.returns-clause-confuses
returns-clause-confuses c = λ pile a b. together-decides a b pile.layers pile.bottom
