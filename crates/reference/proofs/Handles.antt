-- The mended text is an allowed partial name, and an allowed partial name is its own mended text.
use Rattle.std.proofs.Common.{◌≡◌, ℕ, List, codes, sym, ⊎_elim}
use Rattle.std.specs.Str.{bytes_eq}
use Rattle.std.proofs.lemmas.Slice.Eq.{bytes_eq-Decides}
use Rattle.std.proofs.lemmas.Bool.{cases_Bool, cond-false}
use Rattle.tag.specs.Answers.Answer.{allowed}
use Rattle.tag.specs.Names.{tag_name}
use Rattle.tag.proofs.Firsts.{first_passes}
use Rattle.tag.proofs.Rules.{allowed_from_rules}
use Rattle.tag.proofs.Soundness.{allowed_from_sound, sound_from_allowed}
use Rattle.mending.specs.Mender.{mended}
use Rattle.mending.proofs.Laws.{mended_sound, mended_not_at, sound_unchanged}
use Rattle.reference.specs.Names.{partial_name}
use Rattle.reference.proofs.Manual.{partial_allows}

pub mended_allowed : (s : List ℕ) → partial_name (mended s) ≡ allowed
unfolding partial_name
mended_allowed s =
    sym (first_passes (tag_name (mended s)) _ allowed (sym (allowed_from_sound (mended s) (mended_sound s)))
    (sym (cond-false (bytes_eq (mended s) (codes "@")) _ _ (mended_not_at s))))

pub allowed_unchanged : (s : List ℕ) → partial_name s ≡ allowed → mended s ≡ s
allowed_unchanged s h =
    let p = (partial_allows s).0 h in
    sound_unchanged s (sound_from_allowed s (allowed_from_rules s p.every))
    (⊎_elim (λ t. absurd (p.not_at ((bytes_eq-Decides s (codes "@")).0 t))) (λ f. f) (cases_Bool (bytes_eq s (codes "@"))))

-- Mending twice changes nothing more.
pub mended_twice : (s : List ℕ) → mended (mended s) ≡ mended s
mended_twice s = allowed_unchanged (mended s) (mended_allowed s)
