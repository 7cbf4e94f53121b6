-- The two ways: equal keys, or together below.
use Rattle.std.proofs.Common.{◌≡◌, Bool, true, false, ◌||◌, sym, ◌∙◌}
use Rattle.filesystems.proofs.Same.{bytes_eq-decided}
use Rattle.filesystems.proofs.layers.LayerFileSystem.lie_together.Goals as goal

-- The two ways through `x || y`.
either_first : (x y r : Bool) → r ≡ x → r ≡ true → r ≡ (x || y)
either_first x y r e t = let f : x ≡ true = sym e ∙ t in t ∙ rw f

either_second : (x y r s : Bool) → r ≡ x → r ≡ false → s ≡ y → s ≡ (x || y)
either_second x y r s e t d = let f : x ≡ false = sym e ∙ t in d ∙ rw f

pub returns-then-same_key : goal.returns-then-same_key
returns-then-same_key g c = either_first _ _ _ (sym (bytes_eq-decided _ _ _ c.same_key.ensures)) c.if-same_key.true

pub returns-else-same_key : goal.returns-else-same_key
returns-else-same_key g c =
    either_second _ _ _ _ (sym (bytes_eq-decided _ _ _ c.same_key.ensures)) c.if-same_key.false c.lie_together.ensures
