-- Which of several checks decides, by errors of reference names and of tag names.
use Rattle.std.proofs.Common.{◌≡◌, ℕ, Bool, eqb, List, Err, sym, refl, ap, ◌∙◌, subst, Bor}
use Rattle.std.specs.Cmp.Lexicographic.{pointwise}
use Rattle.std.specs.Str.{bytes_eq}
use Rattle.std.proofs.lemmas.Bool.Decides.{same_from_decides, Decides-eqb}
use Rattle.std.proofs.lemmas.Slice.Eq.{slice_eq-Decides, bytes_eq-Decides}
use Rattle.tag.specs.Answers.{Answer, Value, first_refusal}
use Rattle.tag.specs.Errors as tag_errors
use Rattle.tag.specs.declared.Error as tag
use Rattle.tag.specs.declared.Error.TheVariants as tags
use Rattle.reference.specs.Errors.{refusal, from_tag, Lends}
use Rattle.reference.specs.declared.Error.{Error}
use Rattle.reference.specs.declared.Error.TheVariants.{InvalidByte, StartsWithSlash, RepeatedSlash, RepeatedDot, LockFileSuffix, ReflogPortion, Asterisk, StartsWithDot, EndsWithDot, EndsWithSlash, Empty, SomeLowercase, Reserved}

-- An error is a refusal, so it decides.
pub refusal_decides : (e : Error) (next : Answer Value) → first_refusal (refusal e) next ≡ refusal e
refusal_decides (InvalidByte b) next = refl
refusal_decides StartsWithSlash next = refl
refusal_decides RepeatedSlash next = refl
refusal_decides RepeatedDot next = refl
refusal_decides LockFileSuffix next = refl
refusal_decides ReflogPortion next = refl
refusal_decides Asterisk next = refl
refusal_decides StartsWithDot next = refl
refusal_decides EndsWithDot next = refl
refusal_decides EndsWithSlash next = refl
refusal_decides Empty next = refl
refusal_decides SomeLowercase next = refl
refusal_decides (Reserved v) next = refl

-- The first check refuses.
pub first_refuses : (x y : Answer Value) (e : Error) → refusal e ≡ x → refusal e ≡ first_refusal x y
first_refuses x y e p = subst (λ (w : Answer Value). refusal e ≡ first_refusal w y) p (sym (refusal_decides e y))

-- A tag name's error is the same refusal of a reference name.
pub from_tag_refuses : (e : tag.Error) → refusal (from_tag e) ≡ tag_errors.refusal e
from_tag_refuses (tags.InvalidByte b) = refl
from_tag_refuses tags.StartsWithSlash = refl
from_tag_refuses tags.RepeatedSlash = refl
from_tag_refuses tags.RepeatedDot = refl
from_tag_refuses tags.LockFileSuffix = refl
from_tag_refuses tags.ReflogPortion = refl
from_tag_refuses tags.Asterisk = refl
from_tag_refuses tags.StartsWithDot = refl
from_tag_refuses tags.EndsWithDot = refl
from_tag_refuses tags.EndsWithSlash = refl
from_tag_refuses tags.Empty = refl

-- A tag name's error borrows nothing.
pub from_tag_lends : (x : Bor (List ℕ)) (e : tag.Error) → Lends x (Err (from_tag e))
from_tag_lends x (tags.InvalidByte b) = tt
from_tag_lends x tags.StartsWithSlash = tt
from_tag_lends x tags.RepeatedSlash = tt
from_tag_lends x tags.RepeatedDot = tt
from_tag_lends x tags.LockFileSuffix = tt
from_tag_lends x tags.ReflogPortion = tt
from_tag_lends x tags.Asterisk = tt
from_tag_lends x tags.StartsWithDot = tt
from_tag_lends x tags.EndsWithDot = tt
from_tag_lends x tags.EndsWithSlash = tt
from_tag_lends x tags.Empty = tt

-- The library's test whether bytes equal a word is that of the definitions.
pub equals : (s v w : List ℕ) (r : Bool) → r ≡ pointwise eqb s v → v ≡ w → r ≡ bytes_eq s w
equals s v w r h e =
    same_from_decides r (bytes_eq s v) (slice_eq-Decides Decides-eqb s v r h) (bytes_eq-Decides s v) ∙ ap (bytes_eq s) e
