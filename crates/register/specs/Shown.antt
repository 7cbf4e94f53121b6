-- The entry that an answer shows, and the entries that an iterator has still to give.
use Rattle.std.specs.Prelude.{map, Option}
use Rattle.std.specs.Slice.Iter.{iter_rest}
use Rattle.protections.specs.declared.rules.Mode.{Mode}
use Rattle.register_model.specs.Calls.{Kept}
use Rattle.register_model.specs.Entries as model
use Rattle.register.specs.declared.entries.Entries.{Entries}
use Rattle.register.specs.declared.questions.Entry.{Entry}
use Rattle.register.specs.Rows.{entry_of}

abbrev pub shown : Entry → model.Entry (Option Mode)
shown e = record { name = e.name.now; number = e.number; mode = e.mode }

-- The entries of the rows that are left.
abbrev pub entries_left : Entries → Kept
entries_left it = map entry_of (iter_rest it.rows)
