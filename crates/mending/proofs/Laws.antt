-- The laws of the mender: the mended text is a sound name other than @, it is not longer than the larger of one byte and
-- the input, and a sound name other than @ is its own mended text.
use Rattle.std.proofs.Common.{◌≡◌, ℕ, suc, ◌-◌, ◌<◌, ◌≤◌, max, Bool, false, ◌&&◌, ◌||◌, eqb, List, [], ◌∷◌, ◌++◌, map, length, get_or, take, set, codes, sym, refl, ap, ◌∙◌, subst, arith}
use Rattle.std.specs.List.{AllByRecursion}
use Rattle.std.specs.Str.{bytes_eq}
use Rattle.std.proofs.lemmas.List.{length_push, length-set, set-get_or, set_split, drop_all}
use Rattle.std.proofs.lemmas.Bool.{and_right, eqb-false, ne_eqb, cond_both, cond-false}
use Rattle.std.proofs.lemmas.Bool.Decides.{nat_tests}
use Rattle.tag.specs.Bytes.{last_byte, ends_in_lock}
use Rattle.tag.specs.Components.{components, joined}
use Rattle.tag.proofs.Reading.{last_byte_push}
use Rattle.tag.proofs.Sound.{Follows, Unlocked, Sound}
use Rattle.mending.specs.Mender.{mended_component, nonempty, dash_end, dash_alone, mended}
use Rattle.mending.proofs.Following.{follows_append, follows_front, follows_rest, slash_after, slash_after_only}
use Rattle.mending.proofs.MendedComponents.{Whole}
use Rattle.mending.proofs.Joining.{joined_closed, components_closed, joined_from, components_slashless, nonempty_whole, nonempty_short, nonempty_same, joined_short, whole_follows, whole_unlocked, whole_from}

-- A name and a slash after it: the slash may follow the name's last byte, and no .lock stands before it.
abbrev Closes : List ℕ → Type 0
Closes s = Follows 47 (s ++ 47 ∷ []) × Unlocked [] (s ++ 47 ∷ [])

-- A byte other than k ends no .lock
no_lock_end : (p : List ℕ) (b : ℕ) → (b ≡ 107 → ⊥) → ends_in_lock (p ++ b ∷ []) ≡ false
no_lock_end p b n = let e = last_byte_push p b in grind (arith, nat_tests)

-- The end of a name asks what a slash after it asks.
unlocked_open : (p s : List ℕ) → Unlocked p (s ++ 47 ∷ []) → Unlocked p s
unlocked_open p [] h = h.0 refl
unlocked_open p (b ∷ s) h = (h.0, unlocked_open (p ++ b ∷ []) s h.1)

-- And conversely.
unlocked_close : (p s : List ℕ) → Unlocked p s → Unlocked p (s ++ 47 ∷ [])
unlocked_close p [] h = (λ _. h, no_lock_end p 47 (λ e. omega arith))
unlocked_close p (b ∷ s) h = (h.0, unlocked_close (p ++ b ∷ []) s h.1)

-- No .lock ends in a dash.
unlocked_dash : (p s : List ℕ) (b : ℕ) → Unlocked p (s ++ b ∷ []) → Unlocked p (s ++ 45 ∷ [])
unlocked_dash p [] b h = (λ e. absurd (omega arith), no_lock_end p 45 (λ e. omega arith))
unlocked_dash p (x ∷ s) b h = (h.0, unlocked_dash (p ++ x ∷ []) s b h.1)

-- A slash may close a sound name.
sound_closes : (s : List ℕ) → Sound s → Closes s
sound_closes s h = (
  follows_append 47 s (47 ∷ []) h.follows (slash_after s h.some h.no_slash_last, tt),
  unlocked_close [] s h.unlocked,
)

-- What a slash may close is sound if its last byte is no dot.
closes_sound : (s : List ℕ) → Closes s → (last_byte s ≡ 46 → ⊥) → Sound s
closes_sound s h n =
    let ends = slash_after_only s (follows_rest 47 s (47 ∷ []) h.0).0 in
    record {
      some = λ e. omega (arith, ap length e);
      follows = follows_front 47 s (47 ∷ []) h.0;
      unlocked = unlocked_open [] s h.1;
      no_slash_last = ends.1;
      no_dot_last = n;
    }

-- A dash may stand for any last byte.
dash_sound : (s : List ℕ) (b : ℕ) → Follows 47 (s ++ b ∷ []) → Unlocked [] (s ++ b ∷ []) → Sound (s ++ 45 ∷ [])
dash_sound s b f u =
    let e = last_byte_push s 45 in
    record {
      some = λ k. omega (arith, length_push s 45, ap length k);
      follows = follows_append 47 s (45 ∷ []) (follows_front 47 s (b ∷ []) f) (refl, tt);
      unlocked = unlocked_dash [] s b u;
      no_slash_last = λ k. omega arith;
      no_dot_last = λ k. omega arith;
    }

-- A dash is a sound name.
one_dash_sound : Sound (45 ∷ [])
one_dash_sound = dash_sound [] 45 (refl, tt) (λ _. refl, refl)

-- A byte written over the last one stands after the front.
pub set_last : (s : List ℕ) (b : ℕ) → 0 < length s → set s (length s - 1) b ≡ take (length s - 1) s ++ b ∷ []
set_last s b h =
    set_split s (length s - 1) b (omega arith)
    ∙ ap (λ l. take (length s - 1) s ++ b ∷ l) (drop_all (suc (length s - 1)) s (omega arith))

-- With a dash for a last dot, a name that a slash may close is sound.
dash_end_sound : (s : List ℕ) → Closes s → Sound (dash_end s)
dash_end_sound s h =
    let some = (slash_after_only s (follows_rest 47 s (47 ∷ []) h.0).0).0 in
    let front = take (length s - 1) s in
    let split : s ≡ front ++ last_byte s ∷ [] = sym (set-get_or s (length s - 1) 0) ∙ set_last s (last_byte s) some in
    cond_both (eqb (last_byte s) 46) (set s (length s - 1) 45) s Sound
    (λ _. rw (set_last s 45 some)
    (dash_sound front (last_byte s) (subst (Follows 47) split (follows_front 47 s (47 ∷ []) h.0))
    (subst (Unlocked []) split (unlocked_open [] s h.1))))
    (λ e. closes_sound s h (eqb-false (last_byte s) 46 e))

-- Whether a dash stands for the whole text: it is empty or @.
abbrev alone : List ℕ → Bool
alone s = eqb (length s) 0 || (eqb (length s) 1 && eqb (get_or s 0 0) 64)

-- Components of a sound name make a sound name.
finished : (cs : List (List ℕ)) → AllByRecursion Whole cs → Sound (dash_alone (dash_end (joined cs)))
unfolding joined
finished [] h = one_dash_sound
finished (c ∷ cs) h =
    let e = joined_closed c cs in
    cond_both (alone (dash_end (joined (c ∷ cs)))) (45 ∷ []) (dash_end (joined (c ∷ cs))) Sound
    (λ _. one_dash_sound)
    (λ _. dash_end_sound (joined (c ∷ cs)) (rw e (whole_follows (c ∷ cs) h), rw e (whole_unlocked (c ∷ cs) h)))

-- The mended text is a sound name.
pub mended_sound : (s : List ℕ) → Sound (mended s)
unfolding mended
mended_sound s =
    finished (map mended_component (nonempty (components s))) (nonempty_whole (components s) (components_slashless s))

-- A text that no dash stands for is not @
left_not_at : (s : List ℕ) → alone s ≡ false → bytes_eq s (codes "@") ≡ false
left_not_at [] h = refl
left_not_at (b ∷ []) h = grind (arith, nat_tests)
left_not_at (b ∷ (c ∷ s)) h = and_right (eqb b 64) false refl

-- A text that has a byte and is not @ is left.
not_at_left : (s : List ℕ) → (s ≡ [] → ⊥) → bytes_eq s (codes "@") ≡ false → alone s ≡ false
not_at_left [] some h = absurd (some refl)
not_at_left (b ∷ []) some h = grind (arith, nat_tests)
not_at_left (b ∷ (c ∷ s)) some h = grind (arith, nat_tests)

-- The mended text is not @
pub mended_not_at : (s : List ℕ) → bytes_eq (mended s) (codes "@") ≡ false
unfolding mended
mended_not_at s =
    let t = dash_end (joined (map mended_component (nonempty (components s)))) in
    cond_both (alone t) (45 ∷ []) t (λ u. bytes_eq u (codes "@") ≡ false) (λ _. refl) (left_not_at t)

-- A dash for a last dot leaves the length as it is.
dash_end_length : (t : List ℕ) → length (dash_end t) ≡ length t
dash_end_length t =
    cond_both (eqb (last_byte t) 46) (set t (length t - 1) 45) t (λ u. length u ≡ length t)
    (λ _. length-set t (length t - 1) 45) (λ _. refl)

-- The two last steps make a text no longer than the larger of one byte and what it was.
dash_short : (t : List ℕ) → length (dash_alone (dash_end t)) ≤ max 1 (length t)
dash_short t =
    let e = dash_end_length t in
    cond_both (alone (dash_end t)) (45 ∷ []) (dash_end t) (λ u. length u ≤ max 1 (length t))
    (λ _. omega arith) (λ _. omega arith)

-- The mended text is not longer than the larger of one byte and the input.
pub mended_short : (s : List ℕ) → length (mended s) ≤ max 1 (length s)
unfolding mended
mended_short s =
    let cs = components s in
    omega (
      arith,
      dash_short (joined (map mended_component (nonempty cs))),
      joined_short (map mended_component (nonempty cs)),
      nonempty_short cs (components_slashless s),
      ap length (components_closed s),
      length_push s 47,
    )

-- A sound name other than @ is left as it is.
pub sound_unchanged : (s : List ℕ) → Sound s → bytes_eq s (codes "@") ≡ false → mended s ≡ s
unfolding mended
sound_unchanged s h n =
    let closes = sound_closes s h in
    let e = components_closed s in
    let whole = whole_from (components s) (components_slashless s) (rw e closes.0) (rw e closes.1) in
    ap (λ t. dash_alone (dash_end t)) (ap joined (nonempty_same (components s) whole) ∙ joined_from (components s) s e)
    ∙ ap dash_alone (cond-false (eqb (last_byte s) 46) (set s (length s - 1) 45) s (ne_eqb (last_byte s) 46 h.no_dot_last))
    ∙ cond-false (alone s) (45 ∷ []) s (not_at_left s h.some n)
