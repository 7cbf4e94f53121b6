-- The key of what stands in front of a name's end, byte by byte from the front of a component.
use Rattle.std.proofs.Common.{Bor, Some, None, Option, min, nat_le, ◌≡◌, ℕ, suc, ◌+◌, ◌<◌, Bool, true, false, cond, not, ◌&&◌, eqb, ◌⊎◌, List, [], ◌∷◌, ◌++◌, length, take, drop, sym, refl, ap, ◌∙◌, inl, inr, ⊎_elim, one-add, arith}
use Rattle.std.specs.Char.{to_ascii_lowercase, char_set_contains}
use Rattle.std.specs.Cmp.Lexicographic.{unequal}
use Rattle.std.specs.List.{prefix_len, list_all, find}
use Rattle.std.specs.Option.{option_map, option_map_or, unwrap_or}
use Rattle.std.proofs.lemmas.List.{length-map, length-take, length-drop, take-append-drop}
use Rattle.std.proofs.lemmas.Bool.{leb-true, ne_eqb, and_parts, and_right, not-true, true≢false}
use Rattle.std.specs.Prelude.{bytes_eq}
use Rattle.protections.specs.NameEnds.{ended_key, is_ended_key, after_block}
use Rattle.protections.specs.Keys.{lowered, until_any, trimmed}
use Rattle.protections.proofs.Trimmed.{trimmed_fill, trimmed_keep}

-- the key of a byte and what follows it

pub past : (stops : List ℕ) (b : ℕ) (t : List ℕ) → char_set_contains stops b ≡ false → until_any stops (b ∷ t) ≡ b ∷ until_any stops t
past stops b t e =
    let n = prefix_len (λ x. not (char_set_contains stops x)) t in
    let z : prefix_len (λ x. not (char_set_contains stops x)) (b ∷ t) ≡ suc n = rw e (one-add n) in
    ap (λ k. take k (b ∷ t)) z

module _ (stops fillers : List ℕ) where
  none_made : (u : List ℕ) → lowered u ≡ [] → u ≡ []
  none_made [] e = refl
  none_made (x ∷ u) e = let z : ◌≡◌ {A = ℕ} 0 1 = cc in let w : ⊥ = omega arith in absurd w

  key_stop : (b : ℕ) (t : List ℕ) → char_set_contains stops b ≡ true → ended_key stops fillers (b ∷ t) ≡ []
  unfolding ended_key
  key_stop b t e = rw e

  key_fill : (b : ℕ) (t : List ℕ) → char_set_contains stops b ≡ false → char_set_contains fillers b ≡ true → ended_key stops fillers t ≡ [] →
      ended_key stops fillers (b ∷ t) ≡ []
  unfolding ended_key
  key_fill b t e f g =
      ap (λ v. lowered (trimmed fillers v)) (past stops b t e)
      ∙ ap lowered (trimmed_fill fillers b (until_any stops t) f (none_made (trimmed fillers (until_any stops t)) g))

  key_keep : (b : ℕ) (t : List ℕ) → char_set_contains stops b ≡ false → (char_set_contains fillers b ≡ false) ⊎ (ended_key stops fillers t ≡ [] → ⊥) →
      ended_key stops fillers (b ∷ t) ≡ to_ascii_lowercase b ∷ ended_key stops fillers t
  unfolding ended_key
  key_keep b t e f =
      ap (λ v. lowered (trimmed fillers v)) (past stops b t e)
      ∙ ap lowered (trimmed_keep fillers b (until_any stops t) (⊎_elim inl (λ g. inr (λ h. g (ap lowered h))) f))

  -- only fillers

  pub key_nil : ended_key stops fillers [] ≡ []
  unfolding ended_key
  key_nil = refl

  pub rest_filler : (b : ℕ) (t : List ℕ) → char_set_contains stops b ≡ false → char_set_contains fillers b ≡ true →
      bytes_eq (ended_key stops fillers (b ∷ t)) [] ≡ bytes_eq (ended_key stops fillers t) []
  rest_filler b t e f = go (ended_key stops fillers t) refl
    where
      go : (k : List ℕ) → ended_key stops fillers t ≡ k → bytes_eq (ended_key stops fillers (b ∷ t)) [] ≡ bytes_eq (ended_key stops fillers t) []
      go [] q = rw (key_fill b t e f q, q)
      go (x ∷ k) q =
          let more = key_keep b t e (inr (λ n. let z : ◌≡◌ {A = ℕ} 0 1 = cc in omega arith)) in rw (more, q)

  pub rest_other : (b : ℕ) (t : List ℕ) → char_set_contains fillers b ≡ false → bytes_eq (ended_key stops fillers (b ∷ t)) [] ≡ char_set_contains stops b
  rest_other b t f = go (char_set_contains stops b) refl
    where
      go : (x : Bool) → char_set_contains stops b ≡ x → bytes_eq (ended_key stops fillers (b ∷ t)) [] ≡ char_set_contains stops b
      go true q = rw (key_stop b t q, q)
      go false q = rw (key_keep b t q (inl f), q)

  -- the first byte that is no filler decides
  abbrev pub only_fillers_by : Option ℕ → Bool
  only_fillers_by first = option_map_or (char_set_contains stops) first true

  module _ (apart : (b : ℕ) → char_set_contains fillers b ≡ true → char_set_contains stops b ≡ false) where
    all_fill : (u t : List ℕ) → list_all (char_set_contains fillers) u ≡ true → bytes_eq (ended_key stops fillers (u ++ t)) [] ≡ bytes_eq (ended_key stops fillers t) []
    all_fill [] t h = refl
    all_fill (b ∷ u) t h =
        let both = and_parts (char_set_contains fillers b) (list_all (char_set_contains fillers) u) h in
        rest_filler b (u ++ t) (apart b both.0) both.0 ∙ all_fill u t both.1

    -- a block of fillers may be passed over
    pub rest_block : (n : ℕ) (s t : List ℕ) → Some t ≡ after_block fillers n s → bytes_eq (ended_key stops fillers t) [] ≡ bytes_eq (ended_key stops fillers s) []
    rest_block n s t h = go (nat_le n (length s)) (list_all (char_set_contains fillers) (take n s)) refl h
      where
        go : (x y : Bool) → list_all (char_set_contains fillers) (take n s) ≡ y → Some t ≡ cond (x && y) (Some (drop n s)) None →
            bytes_eq (ended_key stops fillers t) [] ≡ bytes_eq (ended_key stops fillers s) []
        go true true e f =
            let same : t ≡ drop n s = cc in
            rw same (sym (all_fill (take n s) (drop n s) e) ∙ ap (λ u. bytes_eq (ended_key stops fillers u) []) (take-append-drop n s))
        go true false e f = let z : ◌≡◌ {A = ℕ} 0 1 = cc in let w : ⊥ = omega arith in absurd w
        go false y e f = let z : ◌≡◌ {A = ℕ} 0 1 = cc in let w : ⊥ = omega arith in absurd w

    pub rest_blocks : (n : ℕ) (d : Bor (List ℕ)) (r : Option (Bor (List ℕ))) → option_map (λ x. x.now) r ≡ after_block fillers n d.now →
        bytes_eq (ended_key stops fillers (unwrap_or r d).now) [] ≡ bytes_eq (ended_key stops fillers d.now) []
    rest_blocks n d None h = refl
    rest_blocks n d (Some t) h = rest_block n d.now t.now h

    pub rest_first : (s : List ℕ) → only_fillers_by (find (λ b. not (char_set_contains fillers b)) s) ≡ bytes_eq (ended_key stops fillers s) []
    rest_first [] = sym (rw key_nil)
    rest_first (b ∷ t) = go (char_set_contains fillers b) refl (rest_first t)
      where
        go : (x : Bool) → char_set_contains fillers b ≡ x → only_fillers_by (find (λ b. not (char_set_contains fillers b)) t) ≡ bytes_eq (ended_key stops fillers t) [] →
            only_fillers_by (find (λ b. not (char_set_contains fillers b)) (b ∷ t)) ≡ bytes_eq (ended_key stops fillers (b ∷ t)) []
        go true e f = rw e (f ∙ sym (rest_filler b t (apart b e) e))
        go false e f = rw e (sym (rest_other b t e))

  pub block_length : (n : ℕ) (s t : List ℕ) → Some t ≡ after_block fillers n s → length t + n ≡ length s
  block_length n s t h = go (nat_le n (length s)) refl (list_all (char_set_contains fillers) (take n s)) h
    where
      go : (x : Bool) → nat_le n (length s) ≡ x → (y : Bool) → Some t ≡ cond (x && y) (Some (drop n s)) None → length t + n ≡ length s
      go true e true f =
          let same : t ≡ drop n s = cc in
          let less = leb-true n (length s) e in
          rw same (simp length-drop (omega arith))
      go true e false f = let z : ◌≡◌ {A = ℕ} 0 1 = cc in let w : ⊥ = omega arith in absurd w
      go false e y f = let z : ◌≡◌ {A = ℕ} 0 1 = cc in let w : ⊥ = omega arith in absurd w

  -- a name, byte by byte

  pub name_rest : (x : ℕ) (w : List ℕ) → is_ended_key stops fillers (x ∷ w) ≡ true → is_ended_key stops fillers w ≡ true
  unfolding is_ended_key
  name_rest x [] h = refl
  name_rest x (y ∷ w) h = (and_parts (not (char_set_contains stops x)) (is_ended_key stops fillers (y ∷ w)) h).1

  no_stop : (x : ℕ) (w : List ℕ) → is_ended_key stops fillers (x ∷ w) ≡ true → char_set_contains stops x ≡ false
  unfolding is_ended_key
  no_stop x [] h = not-true (char_set_contains stops x) (and_parts (not (char_set_contains stops x)) (not (char_set_contains fillers x)) h).0
  no_stop x (y ∷ w) h = not-true (char_set_contains stops x) (and_parts (not (char_set_contains stops x)) (is_ended_key stops fillers (y ∷ w)) h).0

  last_byte : (x : ℕ) → is_ended_key stops fillers (x ∷ []) ≡ true → char_set_contains fillers x ≡ false
  unfolding is_ended_key
  last_byte x h = not-true (char_set_contains fillers x) (and_parts (not (char_set_contains stops x)) (not (char_set_contains fillers x)) h).1

  other_byte : (set : List ℕ) (b x : ℕ) → char_set_contains set b ≡ true → char_set_contains set x ≡ false → eqb b x ≡ false
  other_byte set b x e f = ne_eqb b x (λ q. true≢false (sym e ∙ ap (char_set_contains set) q ∙ f))

  module _ (stops_ignore_case : (b : ℕ) → char_set_contains stops (to_ascii_lowercase b) ≡ char_set_contains stops b) (fillers_ignore_case : (b : ℕ) → char_set_contains fillers (to_ascii_lowercase b) ≡ char_set_contains fillers b) where
    after_filler : (b x : ℕ) (t w : List ℕ) → is_ended_key stops fillers (x ∷ w) ≡ true → char_set_contains fillers b ≡ true → ended_key stops fillers t ≡ [] →
        (eqb (to_ascii_lowercase b) x && bytes_eq (ended_key stops fillers t) w) ≡ false
    after_filler b x t [] h f q = rw (other_byte fillers (to_ascii_lowercase b) x (fillers_ignore_case b ∙ f) (last_byte x h))
    after_filler b x t (y ∷ w) h f q = rw q (and_right (eqb (to_ascii_lowercase b) x) false refl)

    pub name_more : (b x : ℕ) (t w : List ℕ) → is_ended_key stops fillers (x ∷ w) ≡ true →
        bytes_eq (ended_key stops fillers (b ∷ t)) (x ∷ w) ≡ (eqb (to_ascii_lowercase b) x && bytes_eq (ended_key stops fillers t) w)
    name_more b x t w h = go (char_set_contains stops b) refl (char_set_contains fillers b) refl (ended_key stops fillers t) refl
      where
        go : (s : Bool) → char_set_contains stops b ≡ s → (f : Bool) → char_set_contains fillers b ≡ f → (k : List ℕ) → ended_key stops fillers t ≡ k →
            bytes_eq (ended_key stops fillers (b ∷ t)) (x ∷ w) ≡ (eqb (to_ascii_lowercase b) x && bytes_eq (ended_key stops fillers t) w)
        go true p f q k r = rw (key_stop b t p, other_byte stops (to_ascii_lowercase b) x (stops_ignore_case b ∙ p) (no_stop x w h))
        go false p false q k r = rw (key_keep b t p (inl q))
        go false p true q [] r = rw (key_fill b t p q r) (sym (after_filler b x t w h q r))
        go false p true q (y ∷ k) r = rw (key_keep b t p (inr (λ n. let z : ◌≡◌ {A = ℕ} 0 1 = cc in omega arith)))

    -- a name, and then nothing that counts
    pub whole_name : (w s : List ℕ) → is_ended_key stops fillers w ≡ true →
        bytes_eq (ended_key stops fillers s) w ≡ (bytes_eq (lowered (take (length w) s)) w && bytes_eq (ended_key stops fillers (drop (length w) s)) [])
    whole_name [] s h = refl
    whole_name (x ∷ w) [] h = rw key_nil
    whole_name (x ∷ w) (b ∷ t) h =
        name_more b x t w h
        ∙ ap (λ e. eqb (to_ascii_lowercase b) x && e) (whole_name w t (name_rest x w h))
        ∙ regroup (eqb (to_ascii_lowercase b) x) (bytes_eq (lowered (take (length w) t)) w) (bytes_eq (ended_key stops fillers (drop (length w) t)) [])
      where
        regroup : (x y z : Bool) → (x && (y && z)) ≡ ((x && y) && z)
        regroup true y z = refl
        regroup false y z = refl

    module _ (w s : List ℕ) (h : is_ended_key stops fillers w ≡ true) where
      pub name_same : (t u : List ℕ) → t ≡ take (length w) s → u ≡ drop (length w) s → true ≡ bytes_eq (lowered t) w →
          bytes_eq (ended_key stops fillers u) [] ≡ bytes_eq (ended_key stops fillers s) w
      name_same t u p q e = let f : true ≡ bytes_eq (lowered (take (length w) s)) w = rw p at e in rw q (sym (whole_name w s h ∙ rw (← f)))

      pub name_other : (t : List ℕ) → t ≡ take (length w) s → false ≡ bytes_eq (lowered t) w → false ≡ bytes_eq (ended_key stops fillers s) w
      name_other t p e = let f : false ≡ bytes_eq (lowered (take (length w) s)) w = rw p at e in sym (whole_name w s h ∙ rw (← f))

      pub name_short : length s < length w → false ≡ bytes_eq (ended_key stops fillers s) w
      name_short l =
          name_other (take (length w) s) refl
          (sym (unequal eqb (lowered (take (length w) s)) w (λ e. let n : min (length w) (length s) ≡ length w = simp (length-map, length-take) at e in omega arith)))
