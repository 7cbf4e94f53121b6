-- The entries of a list of rows.
use Rattle.std.proofs.Common.{◌≡◌, ℕ, zero, suc, ◌+◌, ◌<◌, ◌≤◌, true, false, List, [], ◌∷◌, ◌++◌, length, get_or, map, take, drop, sym, ap, ◌∙◌, arith}
use Rattle.std.proofs.Math.ListN.{get_or-map}
use Rattle.std.specs.List.{AllWithin, insert, remove}
use Rattle.std.specs.List.Sorted.{IsPartitionedBy}
use Rattle.std.proofs.lemmas.List.{drop-map, drop_all, drop_more, length-map, map-append, take-map}
use Rattle.register_model.specs.Calls.{Kept}
use Rattle.register_model.specs.Entries.{precedes, put, slot}
use Rattle.register.specs.Entries.{InOrder}
use Rattle.register.specs.Rows.{entry_of}
use Rattle.register.specs.declared.table.Row.{Row}
use Rattle.register.proofs.Ordering.{precedes_splits}

module _ (rows : List Row) (x : List ℕ) where
  named : (k : ℕ) (d : Row) → precedes (get_or (map entry_of rows) k (entry_of d)).name x ≡ precedes (get_or rows k d).name.items x
  named k d = ap (λ e. precedes e.name x) (get_or-map entry_of rows k d)

  -- Where the name of a later row comes precedes x, that of an earlier one does.
  pub rows_split : InOrder (map entry_of rows) → IsPartitionedBy (λ r. precedes r.name.items x) rows
  rows_split sorted i j d le in_range h =
      sym (named i d) ∙ precedes_splits (map entry_of rows) x sorted i j (entry_of d) le (omega (arith, length-map rows entry_of)) (named j d ∙ h)

-- The place between the rows whose names come precedes x and the others.
pub slot_of_rows : (x : List ℕ) (rows : List Row) (i : ℕ) → i ≤ length rows → AllWithin (λ r. precedes r.name.items x ≡ true) rows 0 i
    → AllWithin (λ r. precedes r.name.items x ≡ false) rows i (length rows) → slot x (map entry_of rows) ≡ i
unfolding slot
slot_of_rows x [] i l t f = omega arith
slot_of_rows x (r ∷ rows) zero l t f = rw (f 0 r (omega arith) (omega arith))
slot_of_rows x (r ∷ rows) (suc i) l t f =
    rw (t 0 r (omega arith) (omega arith))
    (ap suc (slot_of_rows x rows i (omega arith) (λ k d a b. t (suc k) d (omega arith) (omega arith)) (λ k d a b. f (suc k) d (omega arith) (omega arith))))

-- Rows with one put in, and with one taken out, as entries.
pub map-insert : (rows : List Row) (p : ℕ) (r : Row) → map entry_of (insert rows p r) ≡ insert (map entry_of rows) p (entry_of r)
map-insert rows p r =
    map-append entry_of (take p rows) (r ∷ drop p rows)
    ∙ (ap (λ q. q ++ entry_of r ∷ map entry_of (drop p rows)) (sym (take-map entry_of p rows))
    ∙ ap (λ q. take p (map entry_of rows) ++ entry_of r ∷ q) (sym (drop-map entry_of p rows)))

pub map-remove : (rows : List Row) (p : ℕ) → map entry_of (remove rows p) ≡ remove (map entry_of rows) p
map-remove rows p =
    map-append entry_of (take p rows) (drop (suc p) rows)
    ∙ (ap (λ q. q ++ map entry_of (drop (suc p) rows)) (sym (take-map entry_of p rows))
    ∙ ap (λ q. take p (map entry_of rows) ++ q) (sym (drop-map entry_of (suc p) rows)))

-- The same of the entries that a table is seen as: a row put in at the place of its name, and a row taken out.
pub put_in : (rows after : List Row) (r : Row) (es : Kept) (x : List ℕ) (p : ℕ) → map entry_of rows ≡ es → after ≡ insert rows p r
    → p ≡ slot x es → x ≡ r.name.items → map entry_of after ≡ put (entry_of r) es
put_in rows after r es x p v a q n = ap (map entry_of) a ∙ (map-insert rows p r ∙ rw (v, q, n))

pub taken_out : (rows after : List Row) (es : Kept) (p : ℕ) → map entry_of rows ≡ es → after ≡ remove rows p
    → map entry_of after ≡ remove es p
taken_out rows after es p v a = ap (map entry_of) a ∙ (map-remove rows p ∙ ap (λ l. remove l p) v)

-- The entry at a place is that of its row, and the others follow; past the last row there is none.
pub row_here : (rows : List Row) (i : ℕ) (r : Row) → r ≡ get_or rows i r → i < length rows
    → drop i (map entry_of rows) ≡ entry_of r ∷ drop (i + 1) (map entry_of rows)
row_here rows i r e l =
    drop-map entry_of i rows
    ∙ (ap (map entry_of) (drop_more rows i r l)
    ∙ (ap (λ q. entry_of q ∷ map entry_of (drop (i + 1) rows)) (sym e)
    ∙ ap (λ es. entry_of r ∷ es) (sym (drop-map entry_of (i + 1) rows))))

pub row_none : (rows : List Row) (i : ℕ) → length rows ≤ i → drop i (map entry_of rows) ≡ []
row_none rows i l = drop_all i (map entry_of rows) (omega (arith, length-map rows entry_of))
