-- Which protections the flags of `component` put on.
use Rattle.std.specs.Prelude.{Bool, not, ◌&&◌, ◌||◌}
use Rattle.path.specs.declared.Options.{Options}
use Rattle.command_line.specs.declared.flags.Flags.{Flags}

-- whether these flags put on the protection whose own flag is this one
abbrev pub is_on : Flags → Bool → Bool
is_on f own = not f.none && (own || not (f.windows || f.hfs || f.ntfs))

-- the protections that these flags put on
abbrev pub options_of : Flags → Options
options_of f = record {
  protect_windows = is_on f f.windows;
  protect_hfs = is_on f f.hfs;
  protect_ntfs = is_on f f.ntfs;
}
