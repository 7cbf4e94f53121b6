-- Calls made one by one: what one more adds, and that they are a run.
use Rattle.std.proofs.Common.{◌≡◌, List, [], ◌∷◌, ◌++◌, refl, ap}
use Rattle.register_model.specs.Calls.{Call, Meaning, State, answer, state_after}
use Rattle.register_model.specs.Claim.{Done, Ran}
use Rattle.register_model.specs.Claim.Ran.{next, start}
use Rattle.register_model.specs.Histories.{answers, state_left, history, recorded}

module _ (m : Meaning) where
  -- One call more.
  pub left_push : (s : State) (cs : List Call) (c : Call) → state_left m s (cs ++ c ∷ []) ≡ state_after m (state_left m s cs) c
  unfolding state_left
  left_push s [] c = refl
  left_push s (b ∷ cs) c = left_push (state_after m s b) cs c

  pub answers_push : (s : State) (cs : List Call) (c : Call) → answers m s (cs ++ c ∷ []) ≡ answers m s cs ++ answer m (state_left m s cs) c ∷ []
  unfolding answers state_left
  answers_push s [] c = refl
  answers_push s (b ∷ cs) c = ap (λ os. answer m s b ∷ os) (answers_push (state_after m s b) cs c)

  recorded_ran : (first : State) (cs : List Call) (ds : List Done) (s : State) → Ran m first ds s
      → Ran m first (recorded ds cs (answers m s cs)) (state_left m s cs)
  unfolding recorded answers state_left
  recorded_ran first [] ds s r = r
  recorded_ran first (c ∷ cs) ds s r = recorded_ran first cs _ _ (next r c (answer m s c) (state_after m s c) refl refl)

  -- They are a run.
  pub performed_ran : (first : State) (cs : List Call) → Ran m first (history cs (answers m first cs)) (state_left m first cs)
  performed_ran first cs = recorded_ran first cs [] first start
