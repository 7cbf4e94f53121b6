-- No row so far meets the name, and the components of the two names that are left decide of this one.
use Rattle.std.proofs.Common.{◌≡◌, not, ◌&&◌, map}
use Rattle.std.specs.Option.{option_map}
use Rattle.std.specs.Iterator.Adapters.{zip_first, zip_second}
use Rattle.tag.specs.ComponentsLeft.{components_left}
use Rattle.meetings.specs.Meeting.{meet, meet_parts}
use Rattle.register_model.specs.Calls.{left_aside}
use Rattle.register.specs.Rows.{entry_of}
use Rattle.register.proofs.Searching.{From}
use Rattle.register.proofs.table.Table.first_meeting.Given as goal

abbrev pub invariant-rows : goal.invariant-rows
invariant-rows g l =
    From (λ e. not (left_aside (option_map (λ x. x.now) l.aside) e.name) && meet (g.F.FileSystem.together l.files) e.name l.name)
    (map entry_of l.row-items) l.place

abbrev pub invariant-loop-x : goal.invariant-loop-x
invariant-loop-x g l =
    meet_parts (g.F.FileSystem.together l.files) (components_left (zip_first l.x-iterator)) (components_left (zip_second l.x-iterator))
    ≡ meet_parts (g.F.FileSystem.together l.files) (components_left (zip_first l.initial.x-iterator)) (components_left (zip_second l.initial.x-iterator))
