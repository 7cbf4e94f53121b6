-- A mended component, which has no .lock at its end.
use Rattle.std.proofs.Common.{◌≡◌, ℕ, zero, suc, ◌-◌, ◌<◌, ◌≤◌, true, false, List, [], ◌∷◌, length, take, drop, refl, inl, arith}
use Rattle.std.proofs.ByRecursion.{All-take}
use Rattle.std.proofs.lemmas.List.{length-take, take-append-drop}
use Rattle.std.proofs.lemmas.Bool.{cond_both}
use Rattle.std.proofs.lemmas.Bool.Decides.{nat_tests}
use Rattle.tag.specs.Bytes.{ends_in_lock}
use Rattle.tag.proofs.Sound.{Follows}
use Rattle.mending.specs.Mender.{replaced, without_lock_up_to, without_lock, mended_component}
use Rattle.mending.proofs.WithoutLock.{without_lock_same}
use Rattle.mending.proofs.Following.{follows_front}
use Rattle.mending.proofs.Replaced.{Slashless, replaced_follows, replaced_slashless, replaced_short, replaced_some, replaced_same}

-- A component that has a byte and whose bytes may follow each other.
pub record Part (c : List ℕ) : Type 0 where
  pub some : 0 < length c
  pub slashless : Slashless c
  pub follows : Follows 47 c

-- A component of a sound name.
pub record Whole (c : List ℕ) : Type 0 where
  pub part : Part c
  pub unlocked : ends_in_lock c ≡ false

-- A front that has a byte is as good.
part_take : (n : ℕ) (c : List ℕ) → 0 < n → Part c → Part (take n c)
part_take n c h p =
    let some = p.some in
    record {
      some = simp length-take (omega arith);
      slashless = All-take _ n c p.slashless;
      follows = follows_front 47 (take n c) (drop n c) (rw take-append-drop p.follows);
    }

-- No such component is .lock alone.
not_alone : (c : List ℕ) → Part c → ends_in_lock c ≡ true → 5 < length c
not_alone [] p e = absurd (omega (arith, p.some))
not_alone (b ∷ c) p e = let f = p.follows.0 in grind (arith, nat_tests)

-- Taken off as often as there are bytes, .lock is not at the end.
without_lock_whole : (n : ℕ) (c : List ℕ) → length c ≤ n → Part c → Whole (without_lock_up_to n c)
unfolding without_lock_up_to
without_lock_whole zero c h p = let some = p.some in absurd (omega arith)
without_lock_whole (suc n) c h p =
    cond_both (ends_in_lock c) (without_lock_up_to n (take (length c - 5) c)) c Whole
    (λ e. let long = not_alone c p e in
    without_lock_whole n (take (length c - 5) c) (simp length-take (omega arith)) (part_take (length c - 5) c (omega arith) p))
    (λ e. record { part = p; unlocked = e })

-- Taking .lock off makes no component longer.
without_lock_short : (n : ℕ) (c : List ℕ) → length (without_lock_up_to n c) ≤ length c
unfolding without_lock_up_to
without_lock_short zero c = omega arith
without_lock_short (suc n) c =
    cond_both (ends_in_lock c) (without_lock_up_to n (take (length c - 5) c)) c (λ l. length l ≤ length c)
    (λ _. omega (arith, without_lock_short n (take (length c - 5) c), length-take (length c - 5) c)) (λ _. omega arith)

-- A mended component is one of a sound name.
pub mended_component_whole : (c : List ℕ) → Slashless c → 0 < length c → Whole (mended_component c)
unfolding mended_component without_lock
mended_component_whole c n h =
    without_lock_whole (length (replaced 47 c)) (replaced 47 c) (omega arith)
    (record { some = replaced_some c n h; slashless = replaced_slashless 47 c n; follows = replaced_follows 47 47 c (inl refl) n })

-- Mending makes no component longer.
pub mended_component_short : (c : List ℕ) → Slashless c → length (mended_component c) ≤ length c
unfolding mended_component without_lock
mended_component_short c n = omega (arith, without_lock_short (length (replaced 47 c)) (replaced 47 c), replaced_short 47 c n)

-- A component of a sound name is left as it is.
pub mended_component_same : (c : List ℕ) → Whole c → mended_component c ≡ c
unfolding mended_component without_lock
mended_component_same c w = rw (replaced_same 47 c w.part.follows) (without_lock_same (length c) c w.unlocked)
