-- The text that is being made in a buffer. Only private functions cite these definitions: no public contract rests on them.
use Rattle.std.specs.Prelude.{◌≡◌, ℕ, List, length, take}
use Rattle.mending.specs.declared.text.Text.{Text}

-- Its bytes: those of the buffer before its end.
abbrev pub text_of : Text → List ℕ
text_of t = take t.end t.buffer.now

-- Both stand in the same buffer, which keeps its length.
abbrev pub SameBuffer : Text → Text → Type 0
SameBuffer a b =
    (b.buffer.ghost_name ≡ a.buffer.ghost_name)
    × (length b.buffer.now ≡ length a.buffer.now)
