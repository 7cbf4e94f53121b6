-- Which names a task is asked of, by whether any was given.
use Rattle.std.proofs.Common.{◌≡◌, ℕ, ◌<◌, List, [], ◌∷◌, length, map, Bor, ◌||◌, ap, refl, arith}
use Rattle.std.specs.List.{list_any}
use Rattle.tool_io.specs.Answers.{ends_in_return}
use Rattle.tool_io.specs.Names.{names_of}
use Rattle.lines.specs.Lines.{lines}

pub names_of-none : (ns : List (Bor (List ℕ))) (s : List ℕ) → length ns ≡ 0 → lines s ≡ names_of (map (λ n. n.now) ns) s
names_of-none [] s l = refl
names_of-none (n ∷ ns) s l = absurd (omega arith)

pub names_of-some : (ns : List (Bor (List ℕ))) (s : List ℕ) → 0 < length ns → map (λ n. n.now) ns ≡ names_of (map (λ n. n.now) ns) s
names_of-some [] s l = absurd (omega arith)
names_of-some (n ∷ ns) s l = refl

pub hinted : (ns : List (Bor (List ℕ))) → list_any (λ n. ends_in_return n.now) ns ≡ list_any ends_in_return (map (λ n. n.now) ns)
hinted [] = refl
hinted (n ∷ ns) = ap (λ b. ends_in_return n.now || b) (hinted ns)
