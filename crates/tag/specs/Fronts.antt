-- What a list begins with, what it ends with, and what stands nowhere in it.
use Rattle.std.specs.Prelude.{◌≡◌, List, ◌++◌, ◌≢◌}

-- s begins with w.
abbrev pub Begins : {X : Type 0} → List X → List X → Type 0
Begins {X} w s = (rest : List X) × (s ≡ w ++ rest)

-- s ends with w.
abbrev pub Ends : {X : Type 0} → List X → List X → Type 0
Ends {X} w s = (front : List X) × (s ≡ front ++ w)

-- w stands nowhere in s.
abbrev pub Lacks : {X : Type 0} → List X → List X → Type 0
Lacks {X} w s = (front rest : List X) → s ≢ front ++ (w ++ rest)
