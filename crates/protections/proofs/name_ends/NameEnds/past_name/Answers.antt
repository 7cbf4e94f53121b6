-- The name stands at the front or not, and then what is left of the component decides.
use Rattle.protections.proofs.EndedKey.{name_same, name_other, name_short}
use Rattle.protections.proofs.name_ends.NameEnds.past_name.Goals as goal
use Rattle.protections.proofs.name_ends.NameEnds.past_name.Goals.{in_default-via-in-Some+else-named, in_default-via-in_default}

pub returns-in-Some : goal.returns-in-Some
returns-in-Some g c =
    let s = c.in-Some.ensures.cases in
    name_same g.Self.NameEnds.stops g.Self.NameEnds.fillers g.met.Self.NameEnds.stops_ignore_case g.met.Self.NameEnds.fillers_ignore_case c.args.name.now c.args.component.now c.requires
    c.in-Some.front.now
    c.in-Some.rest.now
    s.1
    s.2
    c.if-named.ensures

pub returns-in_default : goal.returns-in_default
returns-in_default g c =
    elim c.in_default.branch [
      | in_default-via-in-Some+else-named w ↦
          name_other g.Self.NameEnds.stops g.Self.NameEnds.fillers g.met.Self.NameEnds.stops_ignore_case g.met.Self.NameEnds.fillers_ignore_case c.args.name.now c.args.component.now c.requires
          w.in-Some.front.now
          w.in-Some.ensures.cases.1
          w.if-named.ensures
      | in_default-via-in_default w ↦
          name_short g.Self.NameEnds.stops g.Self.NameEnds.fillers g.met.Self.NameEnds.stops_ignore_case g.met.Self.NameEnds.fillers_ignore_case c.args.name.now c.args.component.now c.requires
          w.in_default.ensures.cases
    ]
