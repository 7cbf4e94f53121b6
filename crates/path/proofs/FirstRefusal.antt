-- The first refusal, in words, is the one that the rule computes.
use Rattle.std.proofs.Common.{◌≡◌, ℕ, zero, suc, ◌+◌, ◌<◌, ◌≤◌, Bool, true, false, cond, ◌&&◌, List, [], length, codes, Some, None, Option, sym, refl, ap, subst, inl, inr, arith}
use Rattle.std.specs.Prelude.{◌==◌, bytes_eq}
use Rattle.std.specs.List.{list_any}
use Rattle.std.specs.Option.{option_or}
use Rattle.std.specs.Str.{byte}
use Rattle.std.proofs.lemmas.Bool.{eqb-true, or_cases, cases_order}
use Rattle.std.proofs.lemmas.List.{nil_from_length}
use Rattle.protections.specs.declared.rules.Mode.{Mode}
use Rattle.protections.specs.Rules.{windows_rule, hfs_rule, ntfs_rule, device_rule, plain_rule}
use Rattle.protections.proofs.Equal.{bytes_eq-true}
use Rattle.protections.proofs.NamesDecided.{list_any-contains}
use Rattle.path.specs.declared.Options.{Options}
use Rattle.tag.specs.Components.{IsRelative, is_relative}
use Rattle.path.specs.Order.{Refuses, no_byte, relative, slash, windows_names, hfs, ntfs, windows_devices, plain, IsFirstRefusal}
use Rattle.path.specs.Rule.{if_on, verdict_before, component_rule}

-- a list of answers, one for each place, of which the first that is not none counts

module _ (answers : ℕ → Option ℕ) where
  first_from : ℕ → ℕ → Option ℕ
  first_from place zero = None
  first_from place (suc more) = option_or (answers place) (first_from (suc place) more)

  abbrev IsFirst : ℕ → ℕ → Option ℕ → Type 0
  IsFirst place more None = (p : ℕ) → place ≤ p → p < place + more → answers p ≡ None
  IsFirst place more (Some n) =
      (p : ℕ) × (place ≤ p) × (answers p ≡ Some n) × ((earlier : ℕ) → place ≤ earlier → earlier < p → answers earlier ≡ None)

  first_is_first : (place more : ℕ) → IsFirst place more (first_from place more)
  unfolding first_from
  first_is_first place zero = λ p l m. absurd (omega arith)
  first_is_first place (suc more) = go (answers place) refl (first_from (suc place) more) (first_is_first (suc place) more)
    where
      here_or_later : (p : ℕ) → place ≤ p → answers place ≡ None → (suc place ≤ p → answers p ≡ None) → answers p ≡ None
      here_or_later p l e later =
          elim (cases_order place p) [
            | inl same ↦ subst (λ q. answers q ≡ None) same e
            | inr r ↦ later (elim r [ inl a ↦ omega arith | inr b ↦ omega arith ])
          ]

      go : (o : Option ℕ) → answers place ≡ o → (r : Option ℕ) → IsFirst (suc place) more r → IsFirst place (suc more) (option_or o r)
      go (Some n) e r h = (place, omega arith, e, λ q l m. absurd (omega arith))
      go None e None h = λ p l m. here_or_later p l e (λ k. h p k (omega arith))
      go None e (Some n) h =
          let after = h.1 in
          (h.0, omega arith, h.2, λ q l m. here_or_later q l e (λ k. h.3 q k m))

-- what a rule's being asked gives

on_then : (on : Bool) (v : Option ℕ) (n : ℕ) → if_on on v ≡ Some n → (on ≡ true) × (v ≡ Some n)
on_then true v n e = (refl, e)
on_then false v n e = let z : ◌≡◌ {A = ℕ} 0 1 = cc in absurd (omega arith)

then_on : (on : Bool) (v : Option ℕ) (n : ℕ) → on ≡ true → v ≡ Some n → if_on on v ≡ Some n
then_on on v n e f = rw (e, f)

same_number : {m n : ℕ} → Some m ≡ Some n → m ≡ n
same_number e = cc

both_on : (x y : Bool) → (x && y) ≡ true → (x ≡ true) × (y ≡ true)
both_on true true e = (refl, refl)
both_on true false e = let z : ◌≡◌ {A = ℕ} 0 1 = cc in absurd (omega arith)
both_on false y e = let z : ◌≡◌ {A = ℕ} 0 1 = cc in absurd (omega arith)

is_empty : (s : List ℕ) → (length s == 0) ≡ true → s ≡ []
is_empty s e = nil_from_length s (eqb-true (length s) 0 e)

relative_from : (s : List ℕ) → is_relative s ≡ true → IsRelative s
relative_from s e =
    elim (or_cases (bytes_eq s (codes ".")) (bytes_eq s (codes "..")) e) [
      | inl p ↦ inl (bytes_eq-true s (codes ".") p)
      | inr q ↦ inr (bytes_eq-true s (codes "..") q)
    ]

relative_to : (s : List ℕ) → IsRelative s → is_relative s ≡ true
relative_to s (inl e) = rw e
relative_to s (inr e) = rw e

module _ (s : List ℕ) (mode : Option Mode) (o : Options) where
  has_slash : Bool
  has_slash = list_any (λ b. b == byte "/") s

  -- what the rule at a place answers
  at_place : ℕ → Option ℕ
  at_place zero = if_on (length s == 0) (Some 21)
  at_place (suc zero) = if_on (is_relative s) (Some 28)
  at_place (suc (suc zero)) = if_on has_slash (Some 22)
  at_place (suc (suc (suc zero))) = if_on o.protect_windows (windows_rule s mode)
  at_place (suc (suc (suc (suc zero)))) = if_on o.protect_hfs (hfs_rule s mode)
  at_place (suc (suc (suc (suc (suc zero))))) = if_on o.protect_ntfs (ntfs_rule s mode)
  at_place (suc (suc (suc (suc (suc (suc zero)))))) = if_on (o.protect_windows && o.protect_ntfs) (device_rule s mode)
  at_place (suc (suc (suc (suc (suc (suc (suc zero))))))) = plain_rule s mode
  at_place (suc (suc (suc (suc (suc (suc (suc (suc p)))))))) = None

  refuses_at : (p n : ℕ) → Refuses s mode o p n → at_place p ≡ Some n
  unfolding at_place has_slash
  refuses_at p n (no_byte e) = rw e
  refuses_at p n (relative r) = rw (relative_to s r)
  refuses_at p n (slash c) = rw ((list_any-contains s (byte "/")).1 c)
  refuses_at p n (windows_names on v) = then_on _ _ _ on v
  refuses_at p n (hfs on v) = then_on _ _ _ on v
  refuses_at p n (ntfs on v) = then_on _ _ _ on v
  refuses_at p n (windows_devices w on v) = then_on _ _ _ (rw (w, on)) v
  refuses_at p n (plain v) = v

  at_refuses : (p n : ℕ) → at_place p ≡ Some n → Refuses s mode o p n
  unfolding at_place has_slash
  at_refuses zero n e = let h = on_then _ _ n e in subst (Refuses s mode o 0) (same_number h.1) (no_byte (is_empty s h.0))
  at_refuses (suc zero) n e = let h = on_then _ _ n e in subst (Refuses s mode o 1) (same_number h.1) (relative (relative_from s h.0))
  at_refuses (suc (suc zero)) n e =
      let h = on_then _ _ n e in subst (Refuses s mode o 2) (same_number h.1) (slash ((list_any-contains s (byte "/")).0 h.0))
  at_refuses (suc (suc (suc zero))) n e = let h = on_then _ _ n e in windows_names h.0 h.1
  at_refuses (suc (suc (suc (suc zero)))) n e = let h = on_then _ _ n e in hfs h.0 h.1
  at_refuses (suc (suc (suc (suc (suc zero))))) n e = let h = on_then _ _ n e in ntfs h.0 h.1
  at_refuses (suc (suc (suc (suc (suc (suc zero)))))) n e =
      let h = on_then _ _ n e in
      let both = both_on o.protect_windows o.protect_ntfs h.0 in
      windows_devices both.0 both.1 h.1
  at_refuses (suc (suc (suc (suc (suc (suc (suc zero))))))) n e = plain e
  at_refuses (suc (suc (suc (suc (suc (suc (suc (suc p)))))))) n e = let z : ◌≡◌ {A = ℕ} 0 1 = cc in absurd (omega arith)

  none_refuses : (p m : ℕ) → at_place p ≡ None → Refuses s mode o p m → ⊥
  none_refuses p m e r = let f = refuses_at p m r in let z : ◌≡◌ {A = ℕ} 0 1 = cc in omega arith

  -- no rule has a place past the last
  past_last : (p m : ℕ) → Refuses s mode o p m → p < 8
  past_last p m (no_byte e) = omega arith
  past_last p m (relative r) = omega arith
  past_last p m (slash c) = omega arith
  past_last p m (windows_names on v) = omega arith
  past_last p m (hfs on v) = omega arith
  past_last p m (ntfs on v) = omega arith
  past_last p m (windows_devices w on v) = omega arith
  past_last p m (plain v) = omega arith

  rejoin : (a b c : Bool) (v w : Option ℕ) → v ≡ w →
      cond a (Some 21) (cond b (Some 28) (cond c (Some 22) v))
      ≡ option_or (if_on a (Some 21)) (option_or (if_on b (Some 28)) (option_or (if_on c (Some 22)) w))
  rejoin true b c v w e = refl
  rejoin false true c v w e = refl
  rejoin false false true v w e = refl
  rejoin false false false v w e = e

  last_none : (v : Option ℕ) → v ≡ option_or v None
  last_none None = refl
  last_none (Some n) = refl

  by_places : component_rule s mode o ≡ first_from at_place 0 8
  unfolding component_rule verdict_before first_from at_place has_slash
  by_places =
      rejoin (length s == 0) (is_relative s) (list_any (λ b. b == byte "/") s) _ _
      (ap (λ v. option_or (if_on o.protect_windows (windows_rule s mode))
      (option_or (if_on o.protect_hfs (hfs_rule s mode))
      (option_or (if_on o.protect_ntfs (ntfs_rule s mode))
      (option_or (if_on (o.protect_windows && o.protect_ntfs) (device_rule s mode)) v)))) (last_none (plain_rule s mode)))

  said : (r : Option ℕ) → IsFirst at_place 0 8 r → IsFirstRefusal s mode o r
  said None h = λ p m f. let l = past_last p m f in none_refuses p m (h p (omega arith) (omega arith)) f
  said (Some n) h = (h.0, at_refuses h.0 n h.2, λ q m l f. none_refuses q m (h.3 q (omega arith) l) f)

  pub component_rule-first : IsFirstRefusal s mode o (component_rule s mode o)
  component_rule-first = subst (IsFirstRefusal s mode o) (sym by_places) (said _ (first_is_first at_place 0 8))

  pub first_refused : (r : Option ℕ) → r ≡ component_rule s mode o → IsFirstRefusal s mode o r
  first_refused r e = subst (IsFirstRefusal s mode o) (sym e) component_rule-first

  -- the three refusals before the protections are asked

  empty_answer : (length s == 0) ≡ true → Some 21 ≡ component_rule s mode o
  unfolding component_rule
  empty_answer e = sym (rw e)

  pub empty_first : (length s == 0) ≡ true → IsFirstRefusal s mode o (Some 21)
  empty_first e = first_refused (Some 21) (empty_answer e)

  relative_answer : (length s == 0) ≡ false → is_relative s ≡ true → Some 28 ≡ component_rule s mode o
  unfolding component_rule
  relative_answer e f = sym (rw (e, f))

  pub relative_first : (length s == 0) ≡ false → is_relative s ≡ true → IsFirstRefusal s mode o (Some 28)
  relative_first e f = first_refused (Some 28) (relative_answer e f)

  slash_answer : (length s == 0) ≡ false → is_relative s ≡ false → list_any (λ b. b == byte "/") s ≡ true → Some 22 ≡ component_rule s mode o
  unfolding component_rule
  slash_answer e f g = sym (rw (e, f, g))

  pub slash_first : (length s == 0) ≡ false → is_relative s ≡ false → list_any (λ b. b == byte "/") s ≡ true → IsFirstRefusal s mode o (Some 22)
  slash_first e f g = first_refused (Some 22) (slash_answer e f g)
