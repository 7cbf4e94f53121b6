-- The entry that a row holds.
use Rattle.std.specs.Prelude.{Option}
use Rattle.protections.specs.declared.rules.Mode.{Mode}
use Rattle.register_model.specs.Entries.{Entry}
use Rattle.register.specs.declared.table.Row.{Row}

abbrev pub entry_of : Row → Entry (Option Mode)
entry_of r = record { name = r.name.items; number = r.number; mode = r.mode }
