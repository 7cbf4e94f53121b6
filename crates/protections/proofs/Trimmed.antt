-- A list without the numbers at its end that do not count, number by number from the front, and two such compared.
use Rattle.std.proofs.Common.{◌≡◌, ℕ, suc, ◌+◌, ◌-◌, ◌<◌, Bool, true, false, cond, not, ◌&&◌, eqb, ◌⊎◌, List, [], ◌∷◌, ◌++◌, reverse, length, take, Some, None, Option, sym, refl, ap, ◌∙◌, inl, inr, ⊎_elim, arith}
use Rattle.std.specs.List.{cons_option, prefix_len, suffix_len, list_all}
use Rattle.std.specs.Option.{option_map_or, option_eq, is_some}
use Rattle.std.proofs.lemmas.List.{length-take, length-reverse, reverse-append}
use Rattle.std.proofs.lemmas.List.Sums.{suffix_len-le-length}
use Rattle.std.proofs.lemmas.Bool.{eqb-true, eqb-false, eq-eqb, not-true, not-false, true≢false, false≢true}
use Rattle.std.specs.Prelude.{bytes_eq}
use Rattle.std.specs.Char.{char_set_contains}
use Rattle.std.specs.Iterator.{YieldsFirst}
use Rattle.protections.specs.Keys.{trimmed}

-- how many pass from the end back, with one more element in front

module _ (p : ℕ → Bool) where
  leading_some : (xs : List ℕ) (b : ℕ) → prefix_len p xs < length xs → prefix_len p (xs ++ b ∷ []) ≡ prefix_len p xs
  leading_some [] b h = let z : ⊥ = omega arith in absurd z
  leading_some (x ∷ xs) b h = go (p x) refl (leading_some xs b)
    where
      go : (t : Bool) → p x ≡ t → (prefix_len p xs < length xs → prefix_len p (xs ++ b ∷ []) ≡ prefix_len p xs) →
          prefix_len p ((x ∷ xs) ++ b ∷ []) ≡ prefix_len p (x ∷ xs)
      go true e f =
          let one : prefix_len p (x ∷ xs) ≡ 1 + prefix_len p xs = rw e in
          let l : prefix_len p xs < length xs = omega arith in
          rw (e, f l)
      go false e f = rw e

  leading_all : (xs : List ℕ) (b : ℕ) → prefix_len p xs ≡ length xs → prefix_len p (xs ++ b ∷ []) ≡ length xs + cond (p b) 1 0
  leading_all [] b h = go (p b)
    where
      go : (t : Bool) → cond t (1 + 0) 0 ≡ 0 + cond t 1 0
      go true = refl
      go false = refl
  leading_all (x ∷ xs) b h = go (p x) refl (leading_all xs b)
    where
      go : (t : Bool) → p x ≡ t → (prefix_len p xs ≡ length xs → prefix_len p (xs ++ b ∷ []) ≡ length xs + cond (p b) 1 0) →
          prefix_len p ((x ∷ xs) ++ b ∷ []) ≡ length (x ∷ xs) + cond (p b) 1 0
      go true e f =
          let one : prefix_len p (x ∷ xs) ≡ 1 + prefix_len p xs = rw e in
          let l : prefix_len p xs ≡ length xs = omega arith in
          let more = f l in
          rw e (omega arith)
      go false e f = let none : prefix_len p (x ∷ xs) ≡ 0 = rw e in let z : ⊥ = omega arith in absurd z

  backwards : (b : ℕ) (t : List ℕ) → reverse (b ∷ t) ≡ reverse t ++ b ∷ []
  backwards b t = reverse-append (b ∷ []) t

  ending_some : (b : ℕ) (t : List ℕ) → suffix_len p t < length t → suffix_len p (b ∷ t) ≡ suffix_len p t
  ending_some b t h =
      let n = length-reverse t in ap (prefix_len p) (backwards b t) ∙ leading_some (reverse t) b (omega arith)

  ending_all : (b : ℕ) (t : List ℕ) → suffix_len p t ≡ length t → suffix_len p (b ∷ t) ≡ length t + cond (p b) 1 0
  ending_all b t h =
      ap (prefix_len p) (backwards b t)
      ∙ leading_all (reverse t) b (h ∙ sym (length-reverse t))
      ∙ ap (λ n. n + cond (p b) 1 0) (length-reverse t)

-- an optional number in front
pub all_with_first : (p : ℕ → Bool) (o : Option ℕ) (u : List ℕ) → list_all p (cons_option o u) ≡ (option_map_or p o true && list_all p u)
all_with_first p None u = refl
all_with_first p (Some x) u = refl

-- a number and what follows it

module _ (set : List ℕ) where
  kept : (b : ℕ) (t : List ℕ) → suffix_len (char_set_contains set) (b ∷ t) ≡ suffix_len (char_set_contains set) t → trimmed set (b ∷ t) ≡ b ∷ trimmed set t
  kept b t e =
      let l = suffix_len-le-length (char_set_contains set) t in
      let n : length (b ∷ t) - suffix_len (char_set_contains set) (b ∷ t) ≡ suc (length t - suffix_len (char_set_contains set) t) = omega arith in
      ap (λ k. take k (b ∷ t)) n

  none_kept : (u : List ℕ) → trimmed set u ≡ [] → suffix_len (char_set_contains set) u ≡ length u
  none_kept u e =
      let l = suffix_len-le-length (char_set_contains set) u in
      let n = simp length-take at (ap length e) in
      omega arith

  same_end : (b : ℕ) (u : List ℕ) → (char_set_contains set b ≡ false) ⊎ (trimmed set u ≡ [] → ⊥) → suffix_len (char_set_contains set) (b ∷ u) ≡ suffix_len (char_set_contains set) u
  same_end b u f = go (eqb (suffix_len (char_set_contains set) u) (length u)) refl f
    where
      none : suffix_len (char_set_contains set) u ≡ length u → trimmed set u ≡ []
      none l = let n : length u - suffix_len (char_set_contains set) u ≡ 0 = omega arith in ap (λ k. take k u) n

      go : (x : Bool) → eqb (suffix_len (char_set_contains set) u) (length u) ≡ x → (char_set_contains set b ≡ false) ⊎ (trimmed set u ≡ [] → ⊥) →
          suffix_len (char_set_contains set) (b ∷ u) ≡ suffix_len (char_set_contains set) u
      go true q (inl g) =
          let l = eqb-true (suffix_len (char_set_contains set) u) (length u) q in
          let all : suffix_len (char_set_contains set) (b ∷ u) ≡ length u + 0 = ending_all (char_set_contains set) b u l ∙ rw g in
          omega arith
      go true q (inr g) = absurd (g (none (eqb-true (suffix_len (char_set_contains set) u) (length u) q)))
      go false q r =
          let n = eqb-false (suffix_len (char_set_contains set) u) (length u) q in
          let l = suffix_len-le-length (char_set_contains set) u in
          ending_some (char_set_contains set) b u (omega arith)

  pub trimmed_fill : (b : ℕ) (u : List ℕ) → char_set_contains set b ≡ true → trimmed set u ≡ [] → trimmed set (b ∷ u) ≡ []
  trimmed_fill b u f g =
      let all = none_kept u g in
      let more : suffix_len (char_set_contains set) (b ∷ u) ≡ length u + 1 = ending_all (char_set_contains set) b u all ∙ rw f in
      let n : length (b ∷ u) - suffix_len (char_set_contains set) (b ∷ u) ≡ 0 = omega arith in
      ap (λ k. take k (b ∷ u)) n

  pub trimmed_keep : (b : ℕ) (u : List ℕ) → (char_set_contains set b ≡ false) ⊎ (trimmed set u ≡ [] → ⊥) → trimmed set (b ∷ u) ≡ b ∷ trimmed set u
  trimmed_keep b u f = kept b u (same_end b u f)

  -- one number more: nothing is left exactly where all are of the set

  trimmed_more : (b : ℕ) (u : List ℕ) → bytes_eq (trimmed set u) [] ≡ list_all (char_set_contains set) u →
      trimmed set (b ∷ u) ≡ cond (list_all (char_set_contains set) (b ∷ u)) [] (b ∷ trimmed set u)
  trimmed_more b u h = go (char_set_contains set b) refl (trimmed set u) refl h
    where
      go : (x : Bool) → char_set_contains set b ≡ x → (k : List ℕ) → trimmed set u ≡ k → bytes_eq (trimmed set u) [] ≡ list_all (char_set_contains set) u →
          trimmed set (b ∷ u) ≡ cond (list_all (char_set_contains set) (b ∷ u)) [] (b ∷ trimmed set u)
      go false e k q g = rw e (trimmed_keep b u (inl e))
      go true e [] q g = let all : true ≡ list_all (char_set_contains set) u = rw q at g in rw (e, ← all) (trimmed_fill b u e q)
      go true e (y ∷ k) q g =
          let not_all : false ≡ list_all (char_set_contains set) u = rw q at g in
          rw (e, ← not_all) (trimmed_keep b u (inr (λ n. let z : ◌≡◌ {A = ℕ} 0 1 = cc in omega arith)))

  nothing_left : (u : List ℕ) → bytes_eq (trimmed set u) [] ≡ list_all (char_set_contains set) u
  nothing_left [] = refl
  nothing_left (b ∷ u) =
      ap (λ k. bytes_eq k []) (trimmed_more b u (nothing_left u)) ∙ go (list_all (char_set_contains set) (b ∷ u))
    where
      go : (x : Bool) → bytes_eq (cond x [] (b ∷ trimmed set u)) [] ≡ x
      go true = refl
      go false = refl

  step : (b : ℕ) (u : List ℕ) → trimmed set (b ∷ u) ≡ cond (list_all (char_set_contains set) (b ∷ u)) [] (b ∷ trimmed set u)
  step b u = trimmed_more b u (nothing_left u)

  -- two lists compared

  abbrev pub Same : List ℕ → List ℕ → Bool
  Same u v = bytes_eq (trimmed set u) (trimmed set v)

  pub same_more : (b : ℕ) (u v : List ℕ) → Same (b ∷ u) (b ∷ v) ≡ Same u v
  same_more b u v = go (char_set_contains set b) refl (trimmed set u) refl (trimmed set v) refl
    where
      more : (t : List ℕ) (y : ℕ) (k : List ℕ) → trimmed set t ≡ y ∷ k → trimmed set (b ∷ t) ≡ b ∷ trimmed set t
      more t y k q = trimmed_keep b t (inr (λ n. let z : ◌≡◌ {A = ℕ} 0 1 = cc in omega arith))

      go : (x : Bool) → char_set_contains set b ≡ x → (k : List ℕ) → trimmed set u ≡ k → (l : List ℕ) → trimmed set v ≡ l → Same (b ∷ u) (b ∷ v) ≡ Same u v
      go false e k q l r = rw (trimmed_keep b u (inl e), trimmed_keep b v (inl e), eq-eqb b b refl)
      go true e [] q [] r = rw (trimmed_fill b u e q, trimmed_fill b v e r, q, r)
      go true e [] q (y ∷ l) r = rw (trimmed_fill b u e q, more v y l r, q, r)
      go true e (x ∷ k) q [] r = rw (more u x k q, trimmed_fill b v e r, q, r)
      go true e (x ∷ k) q (y ∷ l) r = rw (more u x k q, more v y l r, eq-eqb b b refl)

  -- a step of each

  -- both yield the same number
  pub passed : (o p : Option ℕ) (u u' v v' : List ℕ) → YieldsFirst (λ s. s) u o u' → YieldsFirst (λ s. s) v p v' → is_some o ≡ true → false ≡ not (option_eq eqb o p) →
      Same u v ≡ Same u' v'
  passed None p u u' v v' a b f g = absurd (false≢true f)
  passed (Some x) None u u' v v' a b f g = absurd (false≢true g)
  passed (Some x) (Some y) u u' v v' a b f g =
      let e : x ≡ y = eqb-true x y (not-false (eqb x y) (sym g)) in rw (a, b, e) (same_more y u' v')

  -- they do not
  pub differ : (o p : Option ℕ) (u u' v v' : List ℕ) → YieldsFirst (λ s. s) u o u' → YieldsFirst (λ s. s) v p v' → (is_some o ≡ false) ⊎ (true ≡ not (option_eq eqb o p)) →
      Same u v ≡ (list_all (char_set_contains set) (cons_option o u') && list_all (char_set_contains set) (cons_option p v'))
  differ None None u u' v v' a b f = rw (a.0, a.1, b.0, b.1)
  differ None (Some y) u u' v v' a b f = rw (a.0, a.1, b, step y v') (go (list_all (char_set_contains set) (y ∷ v')))
    where
      go : (b : Bool) → bytes_eq [] (cond b [] (y ∷ trimmed set v')) ≡ b
      go true = refl
      go false = refl
  differ (Some x) None u u' v v' a b f = rw (a, b.0, b.1, step x u') (go (list_all (char_set_contains set) (x ∷ u')))
    where
      go : (a : Bool) → bytes_eq (cond a [] (x ∷ trimmed set u')) [] ≡ (a && true)
      go true = refl
      go false = refl
  differ (Some x) (Some y) u u' v v' a b f = rw (a, b, step x u', step y v') (go (list_all (char_set_contains set) (x ∷ u')) (list_all (char_set_contains set) (y ∷ v')))
    where
      apart : eqb x y ≡ false
      apart = ⊎_elim (λ e. absurd (true≢false e)) (λ e. not-true (eqb x y) (sym e)) f

      go : (a b : Bool) → bytes_eq (cond a [] (x ∷ trimmed set u')) (cond b [] (y ∷ trimmed set v')) ≡ (a && b)
      go true true = refl
      go true false = refl
      go false true = refl
      go false false = rw apart
