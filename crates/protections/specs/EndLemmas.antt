-- Lemmas for a law that src/ proves: a key is what a component yields, without the numbers at the end that do not count.
use Rattle.std.proofs.Common.{◌≡◌, ℕ, ◌-◌, not, List, [], ◌∷◌, ◌++◌, reverse, length, take, codes, sym, refl, ap, ◌∙◌, arith}
use Rattle.std.specs.Char.{to_ascii_lowercase, char_set_contains}
use Rattle.std.specs.List.{prefix_len, suffix_len}
use Rattle.std.proofs.lemmas.List.{take-map, take_all, length-map, reverse-append, map-append}
use Rattle.std.proofs.lemmas.Bool.Decides.{nat_tests}
use Rattle.protections.specs.Keys.{lowered, until_any, trimmed, ntfs_key}

-- nothing is taken off where each number counts

none_leads : (s : List ℕ) → prefix_len (char_set_contains []) s ≡ 0
none_leads [] = refl
none_leads (x ∷ s) = refl

pub none_trimmed : (s : List ℕ) → s ≡ trimmed [] s
none_trimmed s =
    let n : length s - prefix_len (char_set_contains []) (reverse s) ≡ length s = rw (none_leads (reverse s)) (omega arith) in
    sym (ap (λ k. take k s) n ∙ take_all (length s) s (omega arith))

-- small letters may be made first, where no letter is in a set

map_reverse : (s : List ℕ) → lowered (reverse s) ≡ reverse (lowered s)
map_reverse [] = refl
map_reverse (b ∷ s) =
    ap lowered (reverse-append (b ∷ []) s)
    ∙ map-append to_ascii_lowercase (reverse s) (b ∷ [])
    ∙ ap (λ t. t ++ to_ascii_lowercase b ∷ []) (map_reverse s)
    ∙ sym (reverse-append (to_ascii_lowercase b ∷ []) (lowered s))

module _ (set : List ℕ) (same : (b : ℕ) → char_set_contains set (to_ascii_lowercase b) ≡ char_set_contains set b) where
  leading_lowered : (s : List ℕ) → prefix_len (λ b. not (char_set_contains set b)) (lowered s) ≡ prefix_len (λ b. not (char_set_contains set b)) s
  leading_lowered [] = refl
  leading_lowered (b ∷ s) = rw (same b, leading_lowered s)

  pub until_any_lowered : (s : List ℕ) → lowered (until_any set s) ≡ until_any set (lowered s)
  until_any_lowered s =
      let n = leading_lowered s in
      sym (take-map to_ascii_lowercase (prefix_len (λ b. not (char_set_contains set b)) s) s) ∙ ap (λ k. take k (lowered s)) (sym n)

  passing_lowered : (s : List ℕ) → prefix_len (char_set_contains set) (lowered s) ≡ prefix_len (char_set_contains set) s
  passing_lowered [] = refl
  passing_lowered (b ∷ s) = rw (same b, passing_lowered s)

  ending_lowered : (s : List ℕ) → suffix_len (char_set_contains set) (lowered s) ≡ suffix_len (char_set_contains set) s
  ending_lowered s = ap (prefix_len (char_set_contains set)) (sym (map_reverse s)) ∙ passing_lowered (reverse s)

  pub trimmed_lowered : (s : List ℕ) → lowered (trimmed set s) ≡ trimmed set (lowered s)
  trimmed_lowered s =
      let n : length s - suffix_len (char_set_contains set) s ≡ length (lowered s) - suffix_len (char_set_contains set) (lowered s)
      = rw (length-map s to_ascii_lowercase, ending_lowered s)
      in
      sym (take-map to_ascii_lowercase (length s - suffix_len (char_set_contains set) s) s) ∙ ap (λ k. take k (lowered s)) n

pub colon : (b : ℕ) → char_set_contains (codes ":") (to_ascii_lowercase b) ≡ char_set_contains (codes ":") b
colon b = grind (arith, nat_tests)

pub space_dot : (b : ℕ) → char_set_contains (codes " .") (to_ascii_lowercase b) ≡ char_set_contains (codes " .") b
space_dot b = grind (arith, nat_tests)

pub ntfs_trimmed : (s : List ℕ) → ntfs_key s ≡ trimmed (codes " .") (lowered (until_any (codes ":") s))
unfolding ntfs_key
ntfs_trimmed s = trimmed_lowered (codes " .") space_dot (until_any (codes ":") s)
