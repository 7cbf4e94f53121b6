-- A row that is lent, given another name and mode, and taken out.
use Rattle.std.proofs.Common.{◌≡◌, ℕ, zero, suc, ◌<◌, List, [], ◌∷◌, ◌++◌, length, get_or, map, take, drop, set, sym, refl, ap, ◌∙◌, arith}
use Rattle.std.specs.List.{refill, remove}
use Rattle.std.proofs.lemmas.List.{drop-set-lt, get_or-set_same, length-map, length-set, take-set}
use Rattle.arrayvec.proofs.ArrayVecLemmas.{items-with_items}
use Rattle.register_model.specs.Calls.{Kept}
use Rattle.register.specs.Entries.{number_by_place}
use Rattle.register.specs.Rows.{entry_of}
use Rattle.register.specs.declared.table.Row.{Row}
use Rattle.register.proofs.Rows.{taken_out}

-- The number of the entry at a place is that of its row.
number_by_place-rows : (p : ℕ) (rows : List Row) (d : Row) → p < length rows → number_by_place p (map entry_of rows) ≡ (get_or rows p d).number
unfolding number_by_place
number_by_place-rows p [] d l = absurd (omega arith)
number_by_place-rows zero (r ∷ rows) d l = refl
number_by_place-rows (suc p) (r ∷ rows) d l = number_by_place-rows p rows d (omega arith)

module _ (rows lent : List Row) (es : Kept) (p : ℕ) (inside : p < length es) (shown : map entry_of rows ≡ es) (same : lent ≡ rows) (new : Row) where
  within : p < length rows
  within = omega (arith, ap length shown, length-map rows entry_of)

  -- The rows after the loan.
  abbrev pub given_back : List Row
  given_back = refill (length rows) rows (set lent p new)

  written : given_back ≡ set rows p new
  written =
      items-with_items (record { items = rows }) (set lent p new) (length-set lent p new ∙ ap length same)
      ∙ ap (λ l. set l p new) same

  -- The row that is taken out is the new one.
  pub taken_new : (taken : Row) → taken ≡ get_or given_back p taken → taken ≡ new
  taken_new taken e = e ∙ (ap (λ l. get_or l p taken) written ∙ get_or-set_same rows p new taken within)

  -- The others are left.
  pub others_left : (after : List Row) → after ≡ remove given_back p → map entry_of after ≡ remove es p
  others_left after e =
      let less : p < suc p = omega arith in
      taken_out rows after es p shown
      (e ∙ (ap (λ l. remove l p) written
      ∙ (ap (λ a. a ++ drop (suc p) (set rows p new)) (take-set rows p new) ∙ ap (λ b. take p rows ++ b) (drop-set-lt (suc p) rows p new less))))

  -- The number at the place is that of the row.
  pub number_lent : (d : Row) → (get_or lent p d).number ≡ number_by_place p es
  number_lent d = ap (λ l. (get_or l p d).number) same ∙ (sym (number_by_place-rows p rows d within) ∙ ap (number_by_place p) shown)
