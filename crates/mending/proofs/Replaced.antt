-- Each byte of a component whose bytes are replaced may follow the one before it.
use Rattle.std.proofs.Common.{◌≡◌, ℕ, ◌<◌, ◌≤◌, ◌⊎◌, List, [], ◌∷◌, ◌++◌, length, sym, refl, ap, ◌∙◌, subst, inl, inr, ⊎_elim, arith}
use Rattle.std.specs.List.{AllByRecursion}
use Rattle.std.proofs.lemmas.Bool.Decides.{nat_tests}
use Rattle.tag.specs.Answers.Answer.{allowed}
use Rattle.tag.specs.Names.{fault_after}
use Rattle.tag.proofs.Sound.{Follows}
use Rattle.mending.specs.Mender.{replacement, replaced}

-- No byte is a slash.
abbrev pub Slashless : List ℕ → Type 0
Slashless c = AllByRecursion (λ b. b ≡ 47 → ⊥) c

-- The byte w is the last that was written, a the last that was read: w is a itself or a dash. After a dot that vanished, w
-- is the dot before it, or the dash for that dot.
abbrev Written : ℕ → ℕ → Type 0
Written a w = (w ≡ a) ⊎ (w ≡ 45)

-- What stands for b: nothing where a and b are dots, a dash, or b, which then may follow w.
replacement_ways : (a b w : ℕ) → Written a w → (b ≡ 47 → ⊥)
    → ((replacement a b ≡ []) × ((a ≡ 46) × (b ≡ 46))) ⊎ ((replacement a b ≡ 45 ∷ []) ⊎ ((replacement a b ≡ b ∷ []) × (fault_after w b ≡ allowed)))
replacement_ways a b w h n = grind (arith, nat_tests)

-- What holds in each of these cases holds of what stands for b.
at_replacement :
    (P : List ℕ → Type 0) (a b w : ℕ)
    → Written a w
    → (b ≡ 47 → ⊥)
    → (a ≡ 46 → b ≡ 46 → P [])
    → P (45 ∷ [])
    → (fault_after w b ≡ allowed → P (b ∷ []))
    → P (replacement a b)
at_replacement P a b w h n none dash same =
    ⊎_elim (λ e. subst P (sym e.0) (none e.1.0 e.1.1))
    (⊎_elim (λ e. subst P (sym e) dash) (λ e. subst P (sym e.0) (same e.1)))
    (replacement_ways a b w h n)

-- The replaced bytes may follow the last byte written.
pub replaced_follows : (a w : ℕ) (c : List ℕ) → Written a w → Slashless c → Follows w (replaced a c)
unfolding replaced
replaced_follows a w [] h n = tt
replaced_follows a w (b ∷ c) h n =
    at_replacement (λ l. Follows w (l ++ replaced b c)) a b w h n.0
    (λ p q. replaced_follows b w c (grind arith) n.1)
    (refl, replaced_follows b 45 c (inr refl) n.1)
    (λ p. (p, replaced_follows b b c (inl refl) n.1))

-- Replacing makes no slash.
pub replaced_slashless : (a : ℕ) (c : List ℕ) → Slashless c → Slashless (replaced a c)
unfolding replaced
replaced_slashless a [] n = tt
replaced_slashless a (b ∷ c) n =
    let rest = replaced_slashless b c n.1 in
    at_replacement (λ l. Slashless (l ++ replaced b c)) a b a (inl refl) n.0 (λ _ _. rest) (λ e. omega arith, rest) (λ _. (n.0, rest))

-- Replacing makes no component longer.
pub replaced_short : (a : ℕ) (c : List ℕ) → Slashless c → length (replaced a c) ≤ length c
unfolding replaced
replaced_short a [] n = omega arith
replaced_short a (b ∷ c) n =
    let rest = replaced_short b c n.1 in
    at_replacement (λ l. length (l ++ replaced b c) ≤ length (b ∷ c)) a b a (inl refl) n.0 (λ _ _. omega arith) (omega arith) (λ _. omega arith)

-- The first byte of a component never vanishes.
pub replaced_some : (c : List ℕ) → Slashless c → 0 < length c → 0 < length (replaced 47 c)
unfolding replaced
replaced_some [] n h = h
replaced_some (b ∷ c) n h =
    at_replacement (λ l. 0 < length (l ++ replaced b c)) 47 b 47 (inl refl) n.0 (λ p _. absurd (omega arith)) (omega arith) (λ _. omega arith)

-- A byte that may follow a stands for itself.
replacement_same : (a b : ℕ) → fault_after a b ≡ allowed → replacement a b ≡ b ∷ []
replacement_same a b h = grind (arith, nat_tests)

-- Bytes that may follow each other are left as they are.
pub replaced_same : (a : ℕ) (c : List ℕ) → Follows a c → replaced a c ≡ c
unfolding replaced
replaced_same a [] h = refl
replaced_same a (b ∷ c) h =
    ap (λ l. l ++ replaced b c) (replacement_same a b h.0) ∙ ap (λ l. b ∷ l) (replaced_same b c h.1)
