-- The steps of a walk over the characters that HFS+ does not pass over.
use Rattle.std.proofs.Common.{◌≡◌, ℕ, true, false, not, List, [], ◌∷◌, map, filter, sym, ap, ◌∙◌}
use Rattle.std.specs.Char.{to_ascii_lowercase}
use Rattle.characters.specs.declared.Part.{Part}
use Rattle.characters.specs.Standard.{point}
use Rattle.characters.specs.Reader.{parts, code_points}
use Rattle.characters.proofs.Steps.{parts_nil}
use Rattle.protections.specs.Keys.{lowered, is_passed_over, hfs_key}

key_of : List Part → List ℕ
key_of ps = lowered (filter (λ c. not (is_passed_over c)) (map point ps))

module _ (s t : List ℕ) (p : Part) (c : ℕ) (e : parts s ≡ p ∷ parts t) (f : c ≡ point p) where
  pub hidden : true ≡ is_passed_over c → hfs_key s ≡ hfs_key t
  unfolding hfs_key code_points key_of
  hidden h = let g : is_passed_over (point p) ≡ true = ap is_passed_over (sym f) ∙ sym h in ap key_of e ∙ rw g

  pub shown : (n : ℕ) → n ≡ to_ascii_lowercase c → false ≡ is_passed_over c → hfs_key s ≡ n ∷ hfs_key t
  unfolding hfs_key code_points key_of
  shown n l h =
      let g : is_passed_over (point p) ≡ false = ap is_passed_over (sym f) ∙ sym h in
      let k : to_ascii_lowercase (point p) ≡ n = ap to_ascii_lowercase (sym f) ∙ sym l in
      ap key_of e ∙ rw (g, k)

pub none_left : (s : List ℕ) → s ≡ [] → hfs_key s ≡ []
unfolding hfs_key code_points
none_left s e = rw (e, parts_nil)
