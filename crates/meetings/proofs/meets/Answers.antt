-- The test decides what meeting means, whichever name comes first.
use Rattle.std.proofs.Common.{◌∙◌}
use Rattle.std.proofs.lemmas.Bool.Decides.{Decides-at}
use Rattle.meetings.proofs.Meetings.{meet_decides, meet_turned}
use Rattle.meetings.proofs.meets.Goals as goal

pub returns-then-left-right : goal.returns-then-left-right
returns-then-left-right g c =
    let together = g.F.FileSystem.together c.args.files.now in
    let test = c.meet_by_components.ensures in
    record { test = test; words = Decides-at _ _ test (meet_decides together c.args.left.now c.args.right.now) }

pub returns-else-left-right : goal.returns-else-left-right
returns-else-left-right g c =
    let files = c.args.files.now in
    let together = g.F.FileSystem.together files in
    let left = c.args.left.now in
    let right = c.args.right.now in
    let test = c.meet_by_components-else-left-right.ensures ∙ meet_turned together (g.met.F.FileSystem.symmetric files) right left in
    record { test = test; words = Decides-at _ _ test (meet_decides together left right) }
