-- Names that are lent.
use Rattle.std.proofs.Common.{◌≡◌, ℕ, ◌<◌, ◌||◌, Bor, List, [], ◌∷◌, map, length, get_or, refl, ap, subst, arith}
use Rattle.std.proofs.lemmas.List.{length-map, get_or-map}
use Rattle.std.specs.List.{list_any, AllByRecursion}
use Rattle.std.proofs.ByRecursion.{All-get_or}
use Rattle.std.specs.Prelude.{bytes_eq}
use Rattle.protections.specs.Names.{is_listed}

pub names_is_listed : (k : List ℕ) (rs : List (Bor (List ℕ))) → list_any (λ n. bytes_eq k n.now) rs ≡ is_listed (map (λ x. x.now) rs) k
names_is_listed k [] = refl
names_is_listed k (n ∷ rs) = ap (λ b. bytes_eq k n.now || b) (names_is_listed k rs)

pub names_all : (P : List ℕ → Type 0) (rs : List (Bor (List ℕ))) (i : ℕ) (d : Bor (List ℕ)) → i < length rs → AllByRecursion P (map (λ x. x.now) rs) →
    P (get_or rs i d).now
names_all P rs i d h a = subst P (get_or-map (λ x. x.now) rs i d [] h) (All-get_or P (map (λ x. x.now) rs) i [] (simp length-map (omega arith)) a)
