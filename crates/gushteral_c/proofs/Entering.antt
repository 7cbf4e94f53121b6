-- The first names entered so far, one more at a time.
use Rattle.std.proofs.Common.{◌≡◌, ℕ, zero, suc, ◌+◌, ◌*◌, ◌/◌, ◌<◌, ◌≤◌, List, [], ◌∷◌, ◌++◌, map, length, take, drop, set, None, sym, refl, ap, ◌∙◌, add-mul, one-mul, add-one, arith, length-append, length-drop, min, take-append-drop}
use Rattle.std.proofs.lemmas.List.{drop-drop, drop_at, map-append, take_at, take_more_set}
use Rattle.std.proofs.lemmas.Bool.{ne_eqb}
use Rattle.std.proofs.Math.Nat.{div-lt_iff_lt-mul, le-div_iff_mul-le}
use Rattle.register_model.specs.Calls.{State, answer, state_after}
use Rattle.register_model.specs.Calls.Call.{enter}
use Rattle.register_model.specs.Histories.{answers, state_left}
use Rattle.register_model.proofs.Performing.{answers_push, left_push}
use Rattle.runs.proofs.Recording.{rest_stays}
use Rattle.gushteral_c.specs.Batch.{byte_of, bytes_after, enters, name_at, names_in, number_of_index}
use Rattle.runs.specs.Campus.{campus}

module _ (first : State) (k : ℕ) (s before : List ℕ) where
  -- The first i names are entered: their answers, the other bytes and the state.
  pub record Entered (i : ℕ) (bytes : List ℕ) (now : State) : Type 0 where
    pub answered : take i bytes ≡ map byte_of (answers campus first (enters k s i))
    pub rest : drop i bytes ≡ drop i before
    pub left : now ≡ state_left campus first (enters k s i)

  pub none_yet : Entered 0 before first
  unfolding answers state_left enters
  none_yet = record { answered = refl; rest = refl; left = refl }

  pub one_more : (i : ℕ) (bytes : List ℕ) (now : State) → i < length bytes → Entered i bytes now → (b : ℕ) (after : State)
      → b ≡ byte_of (answer campus now (enter (name_at k s i) (number_of_index i) None))
      → after ≡ state_after campus now (enter (name_at k s i) (number_of_index i) None) → Entered (i + 1) (set bytes i b) after
  unfolding enters
  one_more i bytes now lt e b after answered left =
      let c = enter (name_at k s i) (number_of_index i) None in
      let o = answer campus (state_left campus first (enters k s i)) c in
      let calls : enters k s (i + 1) ≡ enters k s i ++ c ∷ [] = rw add-one in
      record {
        answered =
            let taken = take_more_set bytes i b lt in
            let pushed = answers_push campus first (enters k s i) c in
            let mapped = map-append byte_of (answers campus first (enters k s i)) (o ∷ []) in
            cc;
        rest = rest_stays bytes before i b e.rest;
        left = let pushed = left_push campus first (enters k s i) c in cc;
      }

  enters_long : (n : ℕ) → length (enters k s n) ≡ n
  unfolding enters
  enters_long zero = refl
  enters_long (suc n) = length-append (enters k s n) _ ∙ (ap (λ m. m + 1) (enters_long n) ∙ add-one n)

  pub all_entered : (n : ℕ) (bytes : List ℕ) (now : State) → Entered n bytes now → bytes ≡ bytes_after first (enters k s n) before
  all_entered n bytes now e = rw (enters_long n) (sym (take-append-drop n bytes) ∙ cc (e.answered, e.rest))

module _ (k : ℕ) (s : List ℕ) (some : 0 < k) (i : ℕ) (rest : List ℕ) (within : i * k ≤ length s) (at : rest ≡ drop (i * k) s) where
  next : (i + 1) * k ≡ i * k + k
  next = add-mul i 1 k ∙ ap (λ m. i * k + m) (one-mul k)

  -- The first k bytes of what is left are the next name.
  pub next_name : (x after : List ℕ) → rest ≡ x ++ after → length x ≡ k
      → (x ≡ name_at k s i) × (after ≡ drop ((i + 1) * k) s) × ((i + 1) * k ≤ length s)
  next_name x after splits long =
      let cut : drop (i * k) s ≡ x ++ after = sym at ∙ splits in
      let size : length (drop (i * k) s) ≡ length x + length after = ap length cut ∙ length-append x after in (
        sym (ap (take k) cut ∙ take_at x after k long),
        rw next (sym (drop_at x after k long) ∙ (ap (drop k) (sym cut) ∙ drop-drop k (i * k) s)),
        omega (arith, next, size, length-drop (i * k) s),
      )

  -- Where no name is left, or no room, all are entered.
  pub all_taken : (n room : ℕ) → i + n ≡ room → (0 < n → length rest < k) → i ≡ min (names_in k s) room
  all_taken n room left ends =
      let low : i ≤ length s / k = (le-div_iff_mul-le some).1 within in
      let high : 0 < n → length s / k < i + 1 = λ more. (div-lt_iff_lt-mul some).1 (omega (arith, ends more, ap length at, length-drop (i * k) s, next)) in
      let count : names_in k s ≡ length s / k = rw (ne_eqb k 0 (λ e. omega arith)) in
      let here : i ≡ min (length s / k) room = grind (arith, low, high, left) in
      here ∙ ap (λ q. min q room) (sym count)
