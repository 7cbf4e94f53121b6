-- Which of several checks decides.
use Rattle.std.proofs.Common.{◌≡◌, sym, refl, subst}
use Rattle.tag.specs.Answers.{Answer, Value, first_refusal}
use Rattle.tag.specs.Answers.Answer.{allowed}
use Rattle.tag.specs.Errors.{refusal}
use Rattle.tag.specs.declared.Error.{Error}
use Rattle.tag.specs.declared.Error.TheVariants.{InvalidByte, StartsWithSlash, RepeatedSlash, RepeatedDot, LockFileSuffix, ReflogPortion, Asterisk, StartsWithDot, EndsWithDot, EndsWithSlash, Empty}

-- An error is a refusal, so it decides.
pub refusal_decides : (e : Error) (next : Answer Value) → first_refusal (refusal e) next ≡ refusal e
refusal_decides (InvalidByte b) next = refl
refusal_decides StartsWithSlash next = refl
refusal_decides RepeatedSlash next = refl
refusal_decides RepeatedDot next = refl
refusal_decides LockFileSuffix next = refl
refusal_decides ReflogPortion next = refl
refusal_decides Asterisk next = refl
refusal_decides StartsWithDot next = refl
refusal_decides EndsWithDot next = refl
refusal_decides EndsWithSlash next = refl
refusal_decides Empty next = refl

-- The first check refuses.
pub first_refuses : (x y : Answer Value) (e : Error) → refusal e ≡ x → refusal e ≡ first_refusal x y
first_refuses x y e p = subst (λ (w : Answer Value). refusal e ≡ first_refusal w y) p (sym (refusal_decides e y))

-- The first check passes.
pub first_passes : (x y z : Answer Value) → allowed ≡ x → z ≡ y → z ≡ first_refusal x y
first_passes x y z p q = subst (λ (w : Answer Value). z ≡ first_refusal w y) p q
