-- Calls and their answers, as a history of what was done.
use Rattle.std.specs.Prelude.{List, [], ◌∷◌}
use Rattle.register_model.specs.Calls.{Call, Meaning, Outcome, State, answer, state_after}
use Rattle.register_model.specs.Claim.{Done}

-- The history ds with these calls and their answers added one by one.
unfoldable pub recorded : List Done → List Call → List Outcome → List Done
recorded ds [] os = ds
recorded ds (c ∷ cs) [] = ds
recorded ds (c ∷ cs) (o ∷ os) = recorded (record { call = c; outcome = o } ∷ ds) cs os

-- The history of these calls and their answers, the latest first.
abbrev pub history : List Call → List Outcome → List Done
history cs os = recorded [] cs os

-- The answers of these calls, made one by one from the state s on.
unfoldable pub answers : Meaning → State → List Call → List Outcome
answers m s [] = []
answers m s (c ∷ cs) = answer m s c ∷ answers m (state_after m s c) cs

-- The state that they leave.
unfoldable pub state_left : Meaning → State → List Call → State
state_left m s [] = s
state_left m s (c ∷ cs) = state_left m (state_after m s c) cs
