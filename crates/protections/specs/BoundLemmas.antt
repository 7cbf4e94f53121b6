-- Lemmas for a law that src/ proves: the numbers of a key are at most 1,114,111.
use Rattle.std.specs.Prelude.{ℕ, ◌-◌, ◌<◌, ◌≤◌, Bool, true, false, cond, not, List, [], ◌∷◌, map, length, drop, codes, filter}
use Rattle.std.proofs.Common.{arith}
use Rattle.std.specs.Char.{IsScalar, to_ascii_lowercase, char_set_contains}
use Rattle.std.specs.List.{prefix_len, suffix_len, AllByRecursion}
use Rattle.std.proofs.ByRecursion.{All-weaker, All-map, All-take}
use Rattle.std.proofs.lemmas.Bool.Decides.{nat_tests}
use Rattle.characters.specs.declared.Part.{Part}
use Rattle.characters.specs.Standard.{Reads, largest_code_point, point, size}
use Rattle.characters.specs.Reader.{parts, code_points}
use Rattle.characters.proofs.Steps.{whole_law}
use Rattle.protections.specs.Keys.{lowered, until_any, trimmed, is_passed_over, hfs_key, ntfs_key, device_key}

abbrev pub Bounded : List ℕ → Type 0
Bounded s = AllByRecursion (λ n. n ≤ largest_code_point) s

pub bytes_bounded : (s : List ℕ) → AllByRecursion (λ b. b < 256) s → Bounded s
bytes_bounded s h = All-weaker (λ b. b < 256) (λ n. n ≤ largest_code_point) (λ b l. omega arith) s h

lower_bounded : (n : ℕ) → n ≤ largest_code_point → to_ascii_lowercase n ≤ largest_code_point
lower_bounded n h = grind (arith, nat_tests)

pub lowered_bounded : (s : List ℕ) → Bounded s → Bounded (lowered s)
lowered_bounded s h = All-map (λ n. n ≤ largest_code_point) to_ascii_lowercase s (All-weaker (λ n. n ≤ largest_code_point) (λ n. to_ascii_lowercase n ≤ largest_code_point) lower_bounded s h)

kept_bounded : (p : ℕ → Bool) (s : List ℕ) → Bounded s → Bounded (filter p s)
kept_bounded p [] h = tt
kept_bounded p (x ∷ s) h = go (p x) (kept_bounded p s h.1)
  where
    go : (t : Bool) → Bounded (filter p s) → Bounded (cond t (x ∷ filter p s) (filter p s))
    go true k = (h.0, k)
    go false k = k

scalar_bounded : (c : ℕ) → IsScalar c → c ≤ largest_code_point
scalar_bounded c h = grind (arith, nat_tests)

points_bounded : (ps : List Part) (s : List ℕ) → Reads s ps → Bounded (map point ps)
points_bounded [] s r = tt
points_bounded (p ∷ ps) s r =
    (scalar_bounded (point p) r.0.scalar, points_bounded ps (drop (size p) s) r.1)

pub hfs_bounded : (s : List ℕ) → Bounded (hfs_key s)
unfolding hfs_key code_points
hfs_bounded s =
    lowered_bounded (filter (λ c. not (is_passed_over c)) (map point (parts s)))
    (kept_bounded (λ c. not (is_passed_over c)) (map point (parts s)) (points_bounded (parts s) s (whole_law s).reads))

until_any_bounded : (set s : List ℕ) → Bounded s → Bounded (until_any set s)
until_any_bounded set s h = All-take (λ k. k ≤ largest_code_point) (prefix_len (λ b. not (char_set_contains set b)) s) s h

trimmed_bounded : (set s : List ℕ) → Bounded s → Bounded (trimmed set s)
trimmed_bounded set s h = All-take (λ k. k ≤ largest_code_point) (length s - suffix_len (char_set_contains set) s) s h

ended_bounded : (set stops s : List ℕ) → Bounded s → Bounded (lowered (trimmed set (until_any stops s)))
ended_bounded set stops s h =
    lowered_bounded (trimmed set (until_any stops s)) (trimmed_bounded set (until_any stops s) (until_any_bounded stops s h))

pub ntfs_bounded : (s : List ℕ) → Bounded s → Bounded (ntfs_key s)
unfolding ntfs_key
ntfs_bounded s h = ended_bounded (codes " .") (codes ":") s h

pub device_bounded : (s : List ℕ) → Bounded s → Bounded (device_key s)
unfolding device_key
device_bounded s h = ended_bounded (codes " ") (codes ".:") s h
