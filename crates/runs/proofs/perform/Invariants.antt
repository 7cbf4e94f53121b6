-- The calls so far were made, and the rest of the answers is as it was.
use Rattle.std.proofs.Common.{◌≡◌, drop}
use Rattle.register.specs.Faults.{outcome_of}
use Rattle.register.specs.Registers.{SameRules, meaning_in, state_in}
use Rattle.runs.proofs.Recording.{Made}
use Rattle.runs.proofs.perform.Given as goal

abbrev pub invariant-loop-i : goal.invariant-loop-i
invariant-loop-i g l = record {
  made : Made g.Q.Described.call outcome_of (meaning_in g.Q.Described.mended l.initial.register) (state_in l.initial.register) l.call-items l.answers l.i (state_in l.register);
  rest : drop l.i l.answers ≡ drop l.i l.initial.answers;
  same_rules : SameRules l.initial.register l.register;
}
