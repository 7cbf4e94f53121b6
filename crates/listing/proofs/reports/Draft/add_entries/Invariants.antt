-- The entries before those that are left are added.
use Rattle.std.proofs.Common.{◌≡◌, ◌++◌, vec_items}
use Rattle.std.specs.List.{flat_map}
use Rattle.register.specs.Registers.{entries_in}
use Rattle.register.specs.Shown.{entries_left}
use Rattle.listing.specs.Report.{entry_line}
use Rattle.listing.proofs.reports.Draft.add_entries.Given as goal

abbrev pub invariant-loop-entry : goal.invariant-loop-entry
invariant-loop-entry g l =
    vec_items l.self.bytes ++ flat_map entry_line (entries_left l.entry-iterator)
    ≡ vec_items l.initial.self.bytes ++ flat_map entry_line (entries_in l.register)
