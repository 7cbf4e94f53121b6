-- A tag name is allowed exactly where it is sound.
use Rattle.std.proofs.Common.{◌≡◌, ℕ, false, List, [], ◌∷◌, ◌++◌, get_or, sym, refl, ap, ◌∙◌, subst, arith}
use Rattle.std.proofs.lemmas.List.{append-nil, append_assoc}
use Rattle.std.proofs.lemmas.Bool.Decides.{nat_tests}
use Rattle.tag.specs.Answers.{Answer, Value, first_refusal}
use Rattle.tag.specs.Answers.Answer.{allowed, refused}
use Rattle.tag.specs.Bytes.{last_byte, ends_in_lock}
use Rattle.tag.specs.Names.{fault_after, fault, reads, opening, closing, tag_name}
use Rattle.tag.proofs.Reading.{last_byte_push}
use Rattle.tag.proofs.Sound.{Follows, Unlocked, Sound}

-- Where two checks allow together, each allows.
both_allow : (x y : Answer Value) → first_refusal x y ≡ allowed → (x ≡ allowed) × (y ≡ allowed)
both_allow allowed y h = (refl, h)
both_allow (refused n v) y h = let z : ◌≡◌ {A = ℕ} 0 1 = cc in absurd (omega arith)

-- Where each allows, two checks allow together.
allow_both : (x y : Answer Value) → x ≡ allowed → y ≡ allowed → first_refusal x y ≡ allowed
allow_both x y p q = rw p q

-- A byte with no fault may follow the last one and, if it is a slash, .lock does not stand before it.
fault_parts : (front : List ℕ) (b : ℕ) → fault front b ≡ allowed
    → (fault_after (last_byte front) b ≡ allowed) × (b ≡ 47 → ends_in_lock front ≡ false)
fault_parts front b h =
    let p = both_allow (fault_after (last_byte front) b) _ h in
    (p.0, λ e. grind (arith, nat_tests))

-- Such a byte has no fault.
fault_none : (front : List ℕ) (b : ℕ) → fault_after (last_byte front) b ≡ allowed → (b ≡ 47 → ends_in_lock front ≡ false)
    → fault front b ≡ allowed
fault_none front b p u = allow_both (fault_after (last_byte front) b) _ p (grind (arith, nat_tests))

-- Where the reading allows `rest` after `front` and the whole does not end in .lock, `rest` follows unlocked.
read_from : (front rest : List ℕ) → reads front rest ≡ allowed → ends_in_lock (front ++ rest) ≡ false
    → Follows (last_byte front) rest × Unlocked front rest
unfolding reads
read_from front [] h l = (tt, ap ends_in_lock (sym (append-nil front)) ∙ l)
read_from front (b ∷ rest) h l =
    let p = both_allow (fault front b) _ h in
    let q = fault_parts front b p.0 in
    let r = read_from (front ++ b ∷ []) rest p.1 (ap ends_in_lock (append_assoc front (b ∷ []) rest) ∙ l) in
    ((q.0, subst (λ a. Follows a rest) (last_byte_push front b) r.0), (q.1, r.1))

-- Where `rest` follows unlocked, the reading allows it and the whole does not end in .lock
read_to : (front rest : List ℕ) → Follows (last_byte front) rest → Unlocked front rest
    → (reads front rest ≡ allowed) × (ends_in_lock (front ++ rest) ≡ false)
unfolding reads
read_to front [] f u = (refl, ap ends_in_lock (append-nil front) ∙ u)
read_to front (b ∷ rest) f u =
    let r = read_to (front ++ b ∷ []) rest (subst (λ a. Follows a rest) (sym (last_byte_push front b)) f.1) u.1 in (
      allow_both (fault front b) _ (fault_none front b f.0 u.0) r.0,
      ap ends_in_lock (sym (append_assoc front (b ∷ []) rest)) ∙ r.1,
    )

-- A name that passes the closing rules does not end in .lock, also where it is no longer than that.
closing_unlocked : (s : List ℕ) → closing s ≡ allowed → ends_in_lock s ≡ false
closing_unlocked s h = grind (arith, nat_tests)

-- An allowed name is sound.
pub sound_from_allowed : (s : List ℕ) → tag_name s ≡ allowed → Sound s
unfolding tag_name
sound_from_allowed [] h = let z : ◌≡◌ {A = ℕ} 0 1 = cc in absurd (omega arith)
sound_from_allowed (b ∷ s) h =
    let p = both_allow (opening (b ∷ s)) _ h in
    let q = both_allow (reads [] (b ∷ s)) _ p.1 in
    let r = read_from [] (b ∷ s) q.0 (closing_unlocked (b ∷ s) q.1) in
    let o = p.0 in
    let c = q.1 in
    let f = r.0.0 in
    record {
      some = λ e. let z : ◌≡◌ {A = ℕ} 0 1 = cc in omega arith;
      follows = (grind (arith, nat_tests), r.0.1);
      unlocked = r.1;
      no_slash_last = λ e. grind (arith, nat_tests);
      no_dot_last = λ e. grind (arith, nat_tests);
    }

-- A first byte that may follow a slash may follow nothing, and is no dot and no slash.
first_byte : (b : ℕ) → fault_after 47 b ≡ allowed → (fault_after 0 b ≡ allowed) × ((b ≡ 46 → ⊥) × (b ≡ 47 → ⊥))
first_byte b h = (grind (arith, nat_tests), (λ e. grind (arith, nat_tests), λ e. grind (arith, nat_tests)))

-- A name with a byte and no slash at either end passes the opening rules.
opening_passes : (b : ℕ) (s : List ℕ) → (b ≡ 47 → ⊥) → (last_byte (b ∷ s) ≡ 47 → ⊥) → opening (b ∷ s) ≡ allowed
opening_passes b s n l = grind (arith, nat_tests)

-- A name that ends neither in .lock nor in a dot and begins with no dot passes the closing rules.
closing_passes : (s : List ℕ) → ends_in_lock s ≡ false → (get_or s 0 0 ≡ 46 → ⊥) → (last_byte s ≡ 46 → ⊥)
    → closing s ≡ allowed
closing_passes s u n l = rw u (grind (arith, nat_tests))

-- A sound name is allowed.
pub allowed_from_sound : (s : List ℕ) → Sound s → tag_name s ≡ allowed
unfolding tag_name
allowed_from_sound [] h = absurd (h.some refl)
allowed_from_sound (b ∷ s) h =
    let f = first_byte b h.follows.0 in
    let r = read_to [] (b ∷ s) (f.0, h.follows.1) h.unlocked in
    allow_both (opening (b ∷ s)) _ (opening_passes b s f.1.1 h.no_slash_last)
    (allow_both (reads [] (b ∷ s)) _ r.0 (closing_passes (b ∷ s) r.1 f.1.0 h.no_dot_last))
