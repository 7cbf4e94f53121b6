-- Short names are eight bytes at the front of a component, with only fillers after them.
use Rattle.std.proofs.Common.{Bor, MatchOption, Some, None, Option, ◌≡◌, ℕ, ◌<◌, ◌≤◌, Bool, true, false, ◌&&◌, List, [], ◌∷◌, length, take, drop, codes, sym, refl, ap, ◌∙◌, subst, arith}
use Rattle.std.specs.List.{AllByRecursion, IsSplitAt}
use Rattle.std.specs.Option.{option_map_or}
use Rattle.std.proofs.ByRecursion.{All-weaker, All-append, All-take}
use Rattle.std.proofs.lemmas.List.{length-map, length-take, length-append}
use Rattle.std.proofs.lemmas.Bool.{and_parts, and_from, true≢false}
use Rattle.std.proofs.lemmas.Bool.Decides.{nat_tests}
use Rattle.std.specs.Prelude.{bytes_eq}
use Rattle.std.specs.Char.{char_set_contains}
use Rattle.protections.specs.NameEnds.{ended_key, is_ended_key}
use Rattle.protections.specs.Keys.{lowered, ntfs_key}
use Rattle.protections.specs.Names.{short, short_name, ShortName}
use Rattle.protections.specs.EndLemmas.{colon, space_dot}
use Rattle.protections.proofs.EndedKey.{whole_name}
use Rattle.protections.proofs.Equal.{bytes_eq-true, bytes_eq-refl}
use Rattle.protections.proofs.NamesDecided.{short_decides}

-- a name and what follows it

module _ (stops fillers : List ℕ) where
  abbrev Free : ℕ → Type 0
  Free b = (char_set_contains stops b ≡ false) × (char_set_contains fillers b ≡ false)

  free_name : (w : List ℕ) → AllByRecursion Free w → is_ended_key stops fillers w ≡ true
  unfolding is_ended_key
  free_name [] h = refl
  free_name (x ∷ []) h = rw (h.0.0, h.0.1)
  free_name (x ∷ y ∷ w) h = rw h.0.0 (free_name (y ∷ w) h.1)

-- short names

digit_free : (d : ℕ) → (48 ≤ d) × (d ≤ 57) → Free (codes ":") (codes " .") d
digit_free d h = let low = h.0 in let high = h.1 in (grind (arith, nat_tests), grind (arith, nat_tests))

short_free : AllByRecursion (Free (codes ":") (codes " .")) short
short_free = ((refl, refl), ((refl, refl), ((refl, refl), ((refl, refl), ((refl, refl), ((refl, refl), tt))))))

tilde_free : Free (codes ":") (codes " .") 126
tilde_free = (refl, refl)

short_name_free : (k : List ℕ) → ShortName k → is_ended_key (codes ":") (codes " .") k ≡ true
short_name_free k s =
    let f = s.from_one in
    free_name (codes ":") (codes " .") k
    (subst (AllByRecursion (Free (codes ":") (codes " ."))) (sym s.whole)
    (All-append (Free (codes ":") (codes " .")) (take s.kept short) (126 ∷ s.first ∷ s.digits)
    (All-take (Free (codes ":") (codes " .")) s.kept short short_free) (
      tilde_free,
      (
        digit_free s.first (omega arith, s.to_nine),
        All-weaker (λ d. (48 ≤ d) × (d ≤ 57)) (Free (codes ":") (codes " .")) digit_free s.digits s.each,
      ),
    )))

short_name_long : (k : List ℕ) → ShortName k → length k ≡ 8
short_name_long k s =
    let l = s.at_most in
    let m = s.as_many in
    ap length s.whole ∙ simp (length-append, length-take) (omega arith)

abbrev OnlyFillers : List ℕ → Bool
OnlyFillers s = bytes_eq (ended_key (codes ":") (codes " .") s) []

module _ (s : List ℕ) where
  at_front : (w : List ℕ) → ShortName w →
      bytes_eq (ntfs_key s) w ≡ (bytes_eq (lowered (take 8 s)) w && OnlyFillers (drop 8 s))
  unfolding ntfs_key ended_key
  at_front w n =
      let whole = whole_name (codes ":") (codes " .") colon space_dot w s (short_name_free w n) in
      rw (short_name_long w n) at whole

  few_bytes : length s < 8 → false ≡ short_name (ntfs_key s)
  unfolding ntfs_key
  few_bytes h = go (short_name (ntfs_key s)) refl
    where
      go : (t : Bool) → short_name (ntfs_key s) ≡ t → false ≡ short_name (ntfs_key s)
      go false e = sym e
      go true e =
          let long = short_name_long (ntfs_key s) ((short_decides (ntfs_key s)).0 e) in
          let n : length (ntfs_key s) ≤ length s = simp (length-map, length-take) (omega arith) in
          let z : ⊥ = omega arith in
          absurd z

  short_component : short_name (ntfs_key s) ≡ (short_name (lowered (take 8 s)) && OnlyFillers (drop 8 s))
  short_component = go (short_name (ntfs_key s)) refl (short_name (lowered (take 8 s)) && OnlyFillers (drop 8 s)) refl
    where
      go : (x : Bool) → short_name (ntfs_key s) ≡ x → (y : Bool) → (short_name (lowered (take 8 s)) && OnlyFillers (drop 8 s)) ≡ y →
          short_name (ntfs_key s) ≡ (short_name (lowered (take 8 s)) && OnlyFillers (drop 8 s))
      go true p true q = p ∙ sym q
      go false p false q = p ∙ sym q
      go true p false q =
          let found = at_front (ntfs_key s) ((short_decides (ntfs_key s)).0 p) in
          let both = and_parts (bytes_eq (lowered (take 8 s)) (ntfs_key s)) (OnlyFillers (drop 8 s)) (sym found ∙ bytes_eq-refl (ntfs_key s)) in
          let same = bytes_eq-true (lowered (take 8 s)) (ntfs_key s) both.0 in
          absurd (true≢false (sym (and_from (short_name (lowered (take 8 s))) (OnlyFillers (drop 8 s)) (ap short_name same ∙ p) both.1) ∙ q))
      go false p true q =
          let both = and_parts (short_name (lowered (take 8 s))) (OnlyFillers (drop 8 s)) q in
          let w = lowered (take 8 s) in
          let found = at_front w ((short_decides w).0 both.0) ∙ and_from (bytes_eq w w) (OnlyFillers (drop 8 s)) (bytes_eq-refl w) both.1 in
          let same = bytes_eq-true (ntfs_key s) w found in
          absurd (true≢false (sym both.0 ∙ ap short_name (sym same) ∙ p))

  -- the two parts of a component
  abbrev pub parts_short_component : Bor (List ℕ) × Bor (List ℕ) → Bool
  parts_short_component p = short_name (lowered p.0.now) && OnlyFillers p.1.now

  pub short_component_by : (o : Option (Bor (List ℕ) × Bor (List ℕ))) → MatchOption o (length s < 8) (λ p. IsSplitAt s 8 p.0.now p.1.now) →
      option_map_or parts_short_component o false ≡ short_name (ntfs_key s)
  short_component_by None h = few_bytes h
  short_component_by (Some p) h =
      let front = h.1 in
      let back = h.2 in
      rw (front, back) (sym short_component)
