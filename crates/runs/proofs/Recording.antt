-- A list of calls made so far and their answers, one more at a time.
use Rattle.std.proofs.Common.{◌≡◌, ℕ, ◌+◌, ◌<◌, ◌≤◌, List, [], ◌∷◌, ◌++◌, map, length, get_or, take, drop, set, sym, refl, ap, ◌∙◌, arith}
use Rattle.std.proofs.lemmas.List.{drop-drop, drop-set-lt, map-append, length-take-le, take_more, take_more_set, take_all}
use Rattle.register_model.specs.Calls.{Call, Meaning, Outcome, State, answer, state_after}
use Rattle.register_model.specs.Claim.{Ran}
use Rattle.register_model.specs.Histories.{answers, state_left, history}
use Rattle.register_model.proofs.Performing.{answers_push, left_push, performed_ran}

module _ {C A : Type 0} (call : C → Call) (outcome : A → Outcome) (m : Meaning) (first : State) where
  -- The first i calls gave their answers, and left the state s.
  pub record Made (cs : List C) (os : List A) (i : ℕ) (s : State) : Type 0 where
    pub answered : map outcome (take i os) ≡ answers m first (map call (take i cs))
    pub left : s ≡ state_left m first (map call (take i cs))

  -- None was made yet.
  pub none_yet : (cs : List C) (os : List A) → Made cs os 0 first
  unfolding answers state_left
  none_yet cs os = record { answered = refl; left = refl }

  -- The call at i was made next.
  pub one_more : (cs : List C) (os : List A) (i : ℕ) (x : C) (s : State) → i < length cs → i < length os → x ≡ get_or cs i x → Made cs os i s
      → (n : Meaning) → n ≡ m → (a : A) (after : State) → outcome a ≡ answer n s (call x)
      → after ≡ state_after n s (call x) → Made cs (set os i a) (i + 1) after
  one_more cs os i x s h k is made n same a after e l =
      let c = call x in
      let before = map call (take i cs) in
      let taken : take (i + 1) cs ≡ take i cs ++ x ∷ [] = rw (← is) at (take_more cs i x h) in
      let calls : map call (take (i + 1) cs) ≡ before ++ c ∷ [] = ap (map call) taken ∙ map-append call (take i cs) (x ∷ []) in
      let given : outcome a ≡ answer m (state_left m first before) c = (rw same at e) ∙ ap (λ z. answer m z c) made.left in
      record {
        answered =
            ap (map outcome) (take_more_set os i a k)
            ∙ (map-append outcome (take i os) (a ∷ [])
            ∙ (ap (λ t. t ++ outcome a ∷ []) made.answered
            ∙ (ap (λ o. answers m first before ++ o ∷ []) given ∙ (sym (answers_push m first before c) ∙ ap (answers m first) (sym calls)))));
        left =
            (rw same at l)
            ∙ (ap (λ z. state_after m z c) made.left ∙ (sym (left_push m first before c) ∙ ap (state_left m first) (sym calls)));
      }

  -- All of the first n calls were made.
  pub all_made : (cs : List C) (os : List A) (n i : ℕ) (s : State) → n ≤ length cs → i ≡ length (take n cs) → Made (take n cs) os i s → Made cs os n s
  all_made cs os n i s h end made =
      let same : i ≡ n = end ∙ length-take-le n cs h in
      let whole : take n (take n cs) ≡ take n cs = take_all n (take n cs) (omega (arith, length-take-le n cs h)) in
      let at_n = rw same at made in
      record { answered = rw whole at at_n.answered; left = rw whole at at_n.left }

  -- The calls so far are a run.
  pub made_ran : (cs : List C) (os : List A) (i : ℕ) (s : State) → Made cs os i s
      → Ran m first (history (map call (take i cs)) (map outcome (take i os))) s
  made_ran cs os i s made =
      rw (made.answered, made.left) (performed_ran m first (map call (take i cs)))

-- A write at i leaves what comes after it.
pub rest_stays : {A : Type 0} (xs ys : List A) (i : ℕ) (a : A) → drop i xs ≡ drop i ys → drop (i + 1) (set xs i a) ≡ drop (i + 1) ys
rest_stays xs ys i a e =
    let less : i < i + 1 = omega arith in
    drop-set-lt (i + 1) xs i a less ∙ (sym (drop-drop 1 i xs) ∙ (ap (drop 1) e ∙ drop-drop 1 i ys))
