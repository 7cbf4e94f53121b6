-- Adding a component to the text.
use Rattle.std.proofs.Common.{◌≡◌, ℕ, ◌+◌, ◌-◌, ◌<◌, ◌≤◌, List, [], ◌∷◌, ◌++◌, length, take, drop, sym, ap, ◌∙◌, arith, length-append}
use borrow.Rule.Slice.PartMut.{put_mid}
use lib.Seq.{take-append-add}
use Rattle.std.proofs.lemmas.List.{append_assoc, drop_at, length-take-le, take_at, take-append-le}
use Rattle.std.proofs.lemmas.Bool.{ne_eqb}
use Rattle.std.proofs.lemmas.Bool.Decides.{nat_tests}
use Rattle.tag.specs.Components.{joined}
use Rattle.mending.specs.Mender.{mended_component, without_lock, replaced}
use Rattle.mending.specs.Steps.{add, gap}
use Rattle.mending.specs.Texts.{SameBuffer}
use Rattle.mending.specs.declared.text.Text.{Text}

-- One buffer after two steps.
pub same_buffer : (a b c : Text) → SameBuffer a b → SameBuffer b c → SameBuffer a c
same_buffer a b c h k = (k.0 ∙ h.0, k.1 ∙ h.1)

pub gap_bounds : (n : ℕ) → (n ≤ gap n) × (gap n ≤ n + 1)
gap_bounds n = (grind (arith, nat_tests), grind (arith, nat_tests))

pub gap_more : (n : ℕ) → 0 < n → gap n ≡ n + 1
gap_more n h = rw (ne_eqb n 0 (λ e. omega arith))

-- Behind a text, .lock is taken off the replaced bytes of a component.
pub mended_behind : (text all left c : List ℕ) (start : ℕ) → length text ≡ start → all ≡ text ++ replaced 47 c
    → left ≡ take start all ++ without_lock (drop start all) → left ≡ text ++ mended_component c
unfolding mended_component
mended_behind text all left c start n h k =
    rw (h, take_at text (replaced 47 c) start n, drop_at text (replaced 47 c) start n) at k

-- A component that has a byte is the first, or is added to a text with a slash before it.
pub adds_first : (left c : List ℕ) → 0 < length c → left ≡ mended_component c → left ≡ add [] c
adds_first left c h k = rw (ne_eqb (length c) 0 (λ e. omega arith)) k

pub adds_more : (text left c : List ℕ) → 0 < length c → 0 < length text → left ≡ (text ++ 47 ∷ []) ++ mended_component c → left ≡ add text c
adds_more text left c h l k =
    rw (ne_eqb (length c) 0 (λ e. omega arith), ne_eqb (length text) 0 (λ e. omega arith))
    (k ∙ append_assoc text (47 ∷ []) (mended_component c))

-- A buffer of n bytes has room for these components behind a text of e bytes, if any is left.
abbrev pub Room : List (List ℕ) → ℕ → ℕ → Type 0
Room [] e n = Unit {0}
Room (c ∷ cs) e n = gap e + length (joined (c ∷ cs)) ≤ n

-- It has room for the first of them, and then for the others.
pub room_first : (c : List ℕ) (cs : List (List ℕ)) (e n : ℕ) → Room (c ∷ cs) e n → gap e + length c ≤ n
unfolding joined
room_first c [] e n h = h
room_first c (d ∷ cs) e n h = omega (arith, length-append c (47 ∷ joined (d ∷ cs)))

pub room_rest : (c : List ℕ) (cs : List (List ℕ)) (e f n : ℕ) → Room (c ∷ cs) e n → f ≤ gap e + length c → Room cs f n
unfolding joined
room_rest c [] e f n h k = tt
room_rest c (d ∷ cs) e f n h k = omega (arith, length-append c (47 ∷ joined (d ∷ cs)), gap_bounds f)

-- No text at all leaves room for components that, joined, fit.
pub room_all : (cs : List (List ℕ)) (e n : ℕ) → e ≡ 0 → length (joined cs) ≤ n → Room cs e n
room_all [] e n z h = tt
room_all (c ∷ cs) e n z h = rw z (omega arith)

-- What was written to the front of what is behind a text stands behind it.
pub written : (buffer part h : List ℕ) (e n : ℕ) → e ≤ length buffer → n ≤ length part → take n part ≡ h
    → take (e + n) (put_mid e (length buffer - e) buffer part) ≡ take e buffer ++ h
written buffer part h e n l k w =
    ap (λ m. take (m + n) (put_mid e (length buffer - e) buffer part)) (sym (length-take-le e buffer l))
    ∙ (take-append-add (take e buffer) _ n ∙ ap (λ t. take e buffer ++ t) (take-append-le n part _ k ∙ w))
