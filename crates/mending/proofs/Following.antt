-- Bytes of which each may follow the one before it.
use Rattle.std.proofs.Common.{◌≡◌, ℕ, suc, ◌-◌, ◌<◌, List, [], ◌∷◌, ◌++◌, length, get_or, refl, ap, ◌∙◌, arith}
use Rattle.std.proofs.lemmas.Bool.Decides.{nat_tests}
use Rattle.tag.specs.Answers.Answer.{allowed}
use Rattle.tag.specs.Bytes.{last_byte}
use Rattle.tag.specs.Names.{fault_after}
use Rattle.tag.proofs.Sound.{Follows}

-- The last byte of s, and a where s has none.
abbrev pub last_or : ℕ → List ℕ → ℕ
last_or a [] = a
last_or a (b ∷ s) = last_or b s

-- s may follow a, and t the last byte of s: then s ++ t may follow a.
pub follows_append : (a : ℕ) (s t : List ℕ) → Follows a s → Follows (last_or a s) t → Follows a (s ++ t)
follows_append a [] t h k = k
follows_append a (b ∷ s) t h k = (h.0, follows_append b s t h.1 k)

-- If s ++ t may follow a, then s may.
pub follows_front : (a : ℕ) (s t : List ℕ) → Follows a (s ++ t) → Follows a s
follows_front a [] t h = tt
follows_front a (b ∷ s) t h = (h.0, follows_front b s t h.1)

-- If s ++ t may follow a, then t may follow the last byte of s.
pub follows_rest : (a : ℕ) (s t : List ℕ) → Follows a (s ++ t) → Follows (last_or a s) t
follows_rest a [] t h = h
follows_rest a (b ∷ s) t h = follows_rest b s t h.1

-- Where there is a byte, `last_or` is the element at the last index.
last_or_get_d : (a b : ℕ) (s : List ℕ) → last_or a (b ∷ s) ≡ get_or (b ∷ s) (length s) 0
last_or_get_d a b [] = refl
last_or_get_d a b (c ∷ s) = last_or_get_d b c s

-- Where there is a byte, `last_or` is the last byte.
pub last_or_byte : (a b : ℕ) (s : List ℕ) → last_or a (b ∷ s) ≡ last_byte (b ∷ s)
last_or_byte a b s =
    let n : length s ≡ suc (length s) - 1 = omega arith in
    last_or_get_d a b s ∙ ap (λ k. get_or (b ∷ s) k 0) n

-- A slash may follow s if s has a byte and the last is no slash.
pub slash_after : (s : List ℕ) → (s ≡ [] → ⊥) → (last_byte s ≡ 47 → ⊥) → fault_after (last_or 47 s) 47 ≡ allowed
slash_after [] some n = absurd (some refl)
slash_after (b ∷ s) some n = let e = last_or_byte 47 b s in grind (arith, nat_tests)

-- And only then.
pub slash_after_only : (s : List ℕ) → fault_after (last_or 47 s) 47 ≡ allowed → (0 < length s) × (last_byte s ≡ 47 → ⊥)
slash_after_only [] h = absurd (grind (arith, nat_tests))
slash_after_only (b ∷ s) h = let e = last_or_byte 47 b s in (omega arith, λ k. grind (arith, nat_tests))
