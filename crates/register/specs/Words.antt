-- What a fault says.
use Rattle.std.specs.Prelude.{ℕ, List, codes}
use Rattle.words.specs.declared.sentence.Carried.TheVariants.{Component, Place}
use Rattle.words.specs.Sentences.{sentence}
use Rattle.protections.specs.Texts as verdicts
use Rattle.rulebooks.specs.Words as rulebook
use Rattle.register.specs.declared.faults.Fault.{Fault}
use Rattle.register.specs.declared.faults.Fault.TheVariants as faults
use Rattle.register.specs.declared.faults.StateFault.{StateFault}
use Rattle.register.specs.declared.faults.StateFault.TheVariants.{Full, Met, NotKept, TooLong}

-- The text of each of the register's own refusals.
abbrev pub state_text : StateFault → List ℕ
state_text TooLong = codes "a name or text for the register may have at most 255 bytes"
state_text (Met p) = codes "a kept name meets this one"
state_text Full = codes "the register is full: it keeps 128 names"
state_text NotKept = codes "the name to rename or remove is not kept"

-- One of them tells the place of the kept name.
abbrev pub state_words : StateFault → List ℕ
state_words TooLong = state_text TooLong
state_words (Met p) = sentence (state_text (Met p)) (Place p)
state_words Full = state_text Full
state_words NotKept = state_text NotKept

-- A refusal of the file system tells the index of the component.
abbrev pub words_of : Fault → List ℕ
words_of (faults.Rulebook f) = rulebook.words_of f.refusal
words_of (faults.Component v i) = sentence (verdicts.text_of v) (Component i)
words_of (faults.State f) = state_words f
