use Rattle.std.proofs.Common.{◌≡◌, ◌<◌, ◌≤◌, length, take, refl, ap, ◌∙◌, arith}
use Rattle.std.proofs.lemmas.List.{length-take, length-take-le}
use Rattle.register_model.proofs.Claims.{claim, offers, offers_exact}
use Rattle.register.specs.Faults.{outcome_of}
use Rattle.register.specs.Registers.{meaning_in, state_in}
use Rattle.register.specs.Meanings.{meaning_of}
use Rattle.register.proofs.Lawful.{laws_kept}
use Rattle.runs.proofs.Recording.{all_made, made_ran, none_yet, one_more, rest_stays}
use Rattle.runs.proofs.perform.Goals as goal

pub loop-i-init : goal.loop-i-init
loop-i-init g c = record {
  made = none_yet g.Q.Described.call outcome_of (meaning_in g.Q.Described.mended c.args.register.now) (state_in c.args.register.now) _ c.args.answers.now;
  rest = refl;
  same_rules = (refl, refl);
}

pub loop-i-preserved : goal.loop-i-preserved
loop-i-preserved g c =
    let i = c.loop-i.i in
    let calls = take c.min-count.result c.args.calls.now in
    let so_far = c.loop-i.invariant in
    let h : i < length (take c.min-count.result c.args.calls.now) = omega arith in
    let k : i < length c.loop-i.answers = omega (arith, length-take {A = g.row.Q.Denot}) in
    let same = ap (meaning_of g.R.Rulebook g.Q.Described.mended g.F.FileSystem) so_far.same_rules.1 in
    record {
      made =
          one_more g.Q.Described.call outcome_of (meaning_in g.Q.Described.mended c.args.register.now) (state_in c.args.register.now)
          calls c.loop-i.answers i c.call-item.result (state_in c.loop-i.register) h k c.call-item.is so_far.made
          (meaning_in g.Q.Described.mended c.loop-i.register) same c.make.result (state_in c.make.new.register)
          c.make.ensures.answer c.make.ensures.state;
      rest = rest_stays c.loop-i.answers c.args.answers.now i _ so_far.rest;
      same_rules = (c.make.ensures.same_rules.0 ∙ so_far.same_rules.0, c.make.ensures.same_rules.1 ∙ so_far.same_rules.1);
    }

pub returns : goal.returns
returns g c =
    let m = meaning_in g.Q.Described.mended c.args.register.now in
    let n = c.min-count.result in
    let h : n ≤ length c.args.calls.now = omega arith in
    let end : c.loop-i.i ≡ length (take c.min-count.result c.args.calls.now) = omega arith in
    let made = all_made g.Q.Described.call outcome_of m _ c.args.calls.now _ n c.loop-i.i _ h end c.loop-i.invariant.made in
    let ran = made_ran g.Q.Described.call outcome_of m _ _ _ _ _ made in
    let files = c.args.register.now.files in
    let lawful =
    laws_kept g.R.Rulebook g.F.FileSystem files g.met.R.Rulebook.no_empty_component (g.met.F.FileSystem.symmetric files) (g.met.F.FileSystem.equal_keys_together files) g.Q.Described.mended in
    record {
      count = c.min-count.ensures;
      answered = made.answered;
      state = made.left;
      ran = ran;
      claim = claim m lawful _ _ _ ran;
      offers = λ may. offers m (g.met.Q.Described.mends may) _ _ _ ran;
      offers_exact = λ may. offers_exact m lawful (g.met.Q.Described.mends may) _ _ _ ran;
      rest = rw (end ∙ length-take-le n c.args.calls.now h) at c.loop-i.invariant.rest;
      same_rules = c.loop-i.invariant.same_rules;
    }
