-- A tag name is allowed exactly where it keeps the rules of the manual page.
use Rattle.std.proofs.Common.{◌≡◌, ℕ, ◌<◌, ◌⊎◌, false, List, [], ◌∷◌, ◌++◌, is_ok, Ok, Err, Decides, Result, sym, refl, ap, ◌∙◌, subst, inl, inr, ⊎_elim, arith}
use Rattle.std.specs.Prelude.{All, Contains}
use Rattle.std.specs.List.{AllByRecursion}
use Rattle.std.proofs.lemmas.List.Elements.{All-contains, All-from_recursion, recursion_from_All}
use Rattle.std.proofs.lemmas.List.Prefix.{end_from_reads}
use Rattle.std.proofs.lemmas.List.{append-nil, append_assoc}
use Rattle.std.proofs.lemmas.Bool.{false≢true, cases_Bool}
use Rattle.std.proofs.lemmas.Bool.Decides.{nat_tests, not_from_Decides}
use Rattle.tag.specs.Answers.{Value, first_refusal}
use Rattle.tag.specs.Answers.Answer.{allowed, refused}
use Rattle.tag.specs.Answers.Value.{nothing}
use Rattle.tag.specs.Bytes.{invalid, last_byte, dot_lock, ends_in_lock}
use Rattle.tag.specs.Components.{components}
use Rattle.tag.specs.Errors.{answer_of, refusal}
use Rattle.tag.specs.Fronts.{Begins, Ends, Lacks}
use Rattle.tag.specs.Manual.{Rules}
use Rattle.tag.specs.Names.{fault_after, tag_name}
use Rattle.tag.specs.declared.Error.{Error}
use Rattle.tag.proofs.Firsts.{refusal_decides}
use Rattle.tag.proofs.Locks.{lock_decides, lock_after_slash}
use Rattle.tag.proofs.Members.{Among, among_at, among_contains, contains_among, each_from_all, all_from_each}
use Rattle.tag.proofs.Parts.{Parts, split}
use Rattle.tag.proofs.Parts.Parts.{ends, slash, other}
use Rattle.tag.proofs.Reading.{last_byte_push}
use Rattle.tag.proofs.Sound.{Follows, Unlocked, Sound}
use Rattle.tag.proofs.Soundness.{sound_from_allowed, allowed_from_sound}

-- Where the bytes follow each other, two neighbours do.
follows_at : (a : ℕ) (f : List ℕ) (x y : ℕ) (r : List ℕ) → Follows a (f ++ x ∷ (y ∷ r)) → fault_after x y ≡ allowed
follows_at a [] x y r h = h.1.0
follows_at a (b ∷ f) x y r h = follows_at b f x y r h.1

-- Where the bytes follow each other, each follows some byte.
follows_some : (a b : ℕ) (s : List ℕ) → Follows a s → Among b s → (x : ℕ) × (fault_after x b ≡ allowed)
follows_some a b [] h m = absurd m
follows_some a b (c ∷ s) h (inl e) = (a, ap (fault_after a) e ∙ h.0)
follows_some a b (c ∷ s) h (inr m) = follows_some c b s h.1 m

-- A byte that may follow some byte is neither invalid nor an asterisk.
valid : (a b : ℕ) → fault_after a b ≡ allowed → (invalid b ≡ false) × (b ≡ 42 → ⊥)
valid a b h = (grind (arith, nat_tests), λ e. grind (arith, nat_tests))

-- Two bytes that do not follow each other stand nowhere side by side.
lacks : (s : List ℕ) (x y : ℕ) → Follows 47 s → (fault_after x y ≡ allowed → ⊥) → Lacks (x ∷ (y ∷ [])) s
lacks s x y h n front rest e = n (follows_at 47 front x y rest (subst (Follows 47) e h))

-- A refusal does not allow.
never : (n : ℕ) (v : Value) → refused n v ≡ allowed → ⊥
never n v e = let z : ◌≡◌ {A = ℕ} 0 1 = cc in omega arith

-- No dot may follow a slash.
slash_dot : (a b : ℕ) → a ≡ 47 → b ≡ 46 → fault_after a b ≡ allowed → ⊥
slash_dot a b p q h = never 8 nothing (sym (rw (p, q)) ∙ h)

-- c does not begin with a dot.
abbrev Dotless : List ℕ → Type 0
Dotless c = Begins (46 ∷ []) c → ⊥

-- Where the bytes follow each other, no component after a slash begins with a dot.
dotless_parts : {s c : List ℕ} {cs : List (List ℕ)} → Parts s c cs → (a : ℕ) → Follows a s
    → (a ≡ 47 → Dotless c) × AllByRecursion Dotless cs
dotless_parts ends a h = (λ _ b. let z : ◌≡◌ {A = ℕ} 0 1 = cc in omega arith, tt)
dotless_parts (slash p) a h =
    let r = dotless_parts p 47 h.1 in
    (λ _ b. let z : ◌≡◌ {A = ℕ} 0 1 = cc in omega arith, (r.0 refl, r.1))
dotless_parts (other {b} n p) a h =
    (λ e d. slash_dot a b e (let f = d.1 in cc) h.0, (dotless_parts p b h.1).1)

-- c does not end with .lock, by the test.
abbrev Lockless : List ℕ → Type 0
Lockless c = ends_in_lock c ≡ false

-- What does not end with .lock fails the test.
lockless : (c : List ℕ) → (Ends dot_lock c → ⊥) → Lockless c
lockless c n = ⊎_elim (λ t. absurd (n ((lock_decides c).0 t))) (λ f. f) (cases_Bool (ends_in_lock c))

-- No slash and no end after .lock: no component ends with it, the first one with `front` before it.
unlocked_parts : {s c : List ℕ} {cs : List (List ℕ)} → Parts s c cs → (front : List ℕ) → Unlocked front s
    → Lockless (front ++ c) × AllByRecursion Lockless cs
unlocked_parts ends front h = (ap ends_in_lock (append-nil front) ∙ h, tt)
unlocked_parts (slash {s} {c} p) front h =
    let r = unlocked_parts p (front ++ 47 ∷ []) h.1 in (
      ap ends_in_lock (append-nil front) ∙ h.0 refl,
      (sym (ap ends_in_lock (append_assoc front (47 ∷ []) c) ∙ lock_after_slash front c) ∙ r.0, r.1),
    )
unlocked_parts (other {b} {s} {c} n p) front h =
    let r = unlocked_parts p (front ++ b ∷ []) h.1 in
    (sym (ap ends_in_lock (append_assoc front (b ∷ []) c)) ∙ r.0, r.1)

-- No component ends with .lock, the first one with `front` before it: no slash and no end after .lock
parts_unlocked : {s c : List ℕ} {cs : List (List ℕ)} → Parts s c cs → (front : List ℕ) → Lockless (front ++ c)
    → AllByRecursion Lockless cs → Unlocked front s
parts_unlocked ends front h k = ap ends_in_lock (sym (append-nil front)) ∙ h
parts_unlocked (slash {s} {c} p) front h k = (
  λ _. ap ends_in_lock (sym (append-nil front)) ∙ h,
  parts_unlocked p (front ++ 47 ∷ [])
      (ap ends_in_lock (append_assoc front (47 ∷ []) c) ∙ (lock_after_slash front c ∙ k.0)) k.1,
)
parts_unlocked (other {b} {s} {c} n p) front h k = (
  λ e. absurd (n e),
  parts_unlocked p (front ++ b ∷ []) (ap ends_in_lock (append_assoc front (b ∷ []) c) ∙ h) k,
)

-- The bytes that rule 4 names, and those of rule 5.
abbrev named4 : List ℕ
named4 = 127 ∷ (32 ∷ (126 ∷ (94 ∷ (58 ∷ []))))

abbrev named5 : List ℕ
named5 = 63 ∷ (42 ∷ (91 ∷ []))

-- No valid byte is one that these rules forbid.
control_invalid : (b : ℕ) → invalid b ≡ false → (b < 32) ⊎ Among b named4 → ⊥
control_invalid b v c = grind (arith, nat_tests)

wildcard_invalid : (b : ℕ) → invalid b ≡ false → (b ≡ 42 → ⊥) → Among b named5 → ⊥
wildcard_invalid b v n c = grind (arith, nat_tests)

module _ (s : List ℕ) (h : Sound s) where
  -- A sound name has no invalid byte and no asterisk.
  sound_valid : (b : ℕ) → Among b s → (invalid b ≡ false) × (b ≡ 42 → ⊥)
  sound_valid b m = let p = follows_some 47 b s h.follows m in valid p.0 b p.1

  -- What is false of each byte of a sound name is so by what is true of a valid one.
  each_valid : (P : ℕ → Type 0) → ((b : ℕ) → invalid b ≡ false → (b ≡ 42 → ⊥) → P b → ⊥) → All (λ b. P b → ⊥) s
  each_valid P f =
      All-from_recursion (λ b. P b → ⊥) s
      (all_from_each (λ b. P b → ⊥) s (λ b m. let v = sound_valid b m in f b v.0 v.1))

  -- No component of a sound name begins with a dot.
  sound_dotless : All Dotless (components s)
  sound_dotless =
      let r = split s in
      let d = dotless_parts r.parts 47 h.follows in
      subst (All Dotless) (sym r.all) (All-from_recursion Dotless (r.first ∷ r.others) (d.0 refl, d.1))

  -- No component of a sound name ends with .lock
  sound_lockless : All (λ c. Ends dot_lock c → ⊥) (components s)
  sound_lockless =
      let r = split s in
      let u = unlocked_parts r.parts [] h.unlocked in
      subst (All (λ c. Ends dot_lock c → ⊥)) (sym r.all)
      (All-from_recursion (λ c. Ends dot_lock c → ⊥) (r.first ∷ r.others)
      (all_from_each (λ c. Ends dot_lock c → ⊥) (r.first ∷ r.others)
      (λ c m. not_from_Decides (ends_in_lock c) (lock_decides c) (each_from_all Lockless (r.first ∷ r.others) u c m))))

  -- A sound name keeps the rules.
  rules_from_sound : Rules s
  rules_from_sound = record {
    some_byte = h.some;
    no_dot_first = sound_dotless;
    no_lock_last = sound_lockless;
    no_dots = lacks s 46 46 h.follows (never 4 nothing);
    no_control = each_valid _ (λ b v n c. control_invalid b v (⊎_elim inl (λ m. inr (among_contains named4 b m)) c));
    no_wildcard = each_valid _ (λ b v n c. wildcard_invalid b v n (among_contains named5 b c));
    no_slash_first = λ b. never 3 nothing (subst (Follows 47) b.1 h.follows).0;
    no_slash_last = λ e. h.no_slash_last (ap last_byte e.1 ∙ last_byte_push e.0 47);
    no_slashes = lacks s 47 47 h.follows (never 3 nothing);
    no_dot_last = λ e. h.no_dot_last (ap last_byte e.1 ∙ last_byte_push e.0 46);
    no_reflog = lacks s 64 123 h.follows (never 6 nothing);
    no_backslash = λ m. let v = (sound_valid 92 (among_contains s 92 m)).0 in grind (arith, nat_tests);
  }

-- An allowed name keeps the rules.
pub rules_from_allowed : (s : List ℕ) → tag_name s ≡ allowed → Rules s
rules_from_allowed s h = rules_from_sound s (sound_from_allowed s h)

-- A valid byte, no asterisk, may follow another, but for the four pairs that are refused.
fault_after_passes : (x y : ℕ) → invalid y ≡ false → (y ≡ 42 → ⊥) → (x ≡ 46 → y ≡ 46 → ⊥) → (x ≡ 47 → y ≡ 46 → ⊥)
    → (x ≡ 64 → y ≡ 123 → ⊥) → (x ≡ 47 → y ≡ 47 → ⊥) → fault_after x y ≡ allowed
fault_after_passes x y v star dots dot reflog slashes = grind (arith, nat_tests)

-- The bytes follow each other where each two neighbours do, a dot after a slash left to the components.
follows_parts : {s c : List ℕ} {cs : List (List ℕ)} → Parts s c cs → (a : ℕ) → (a ≡ 47 → Dotless c) → AllByRecursion Dotless cs
    → ((f : List ℕ) (x y : ℕ) (r : List ℕ) → a ∷ s ≡ f ++ x ∷ (y ∷ r) → (x ≡ 47 → y ≡ 46 → ⊥) → fault_after x y ≡ allowed)
    → Follows a s
follows_parts ends a d ds near = tt
follows_parts (slash {s} p) a d ds near = (
  near [] a 47 s refl (λ _ e. omega arith),
  follows_parts p 47 (λ _. ds.0) ds.1 (λ f x y r e. near (a ∷ f) x y r (ap (λ t. a ∷ t) e)),
)
follows_parts (other {b} {s} {c} n p) a d ds near = (
  near [] a b s refl (λ e g. d e (c, ap (λ x. x ∷ c) g)),
  follows_parts p b (λ e. absurd (n e)) ds (λ f x y r e. near (a ∷ f) x y r (ap (λ t. a ∷ t) e)),
)

-- A list that is not empty ends with its last byte.
pub ends_from_last : (b : ℕ) (s : List ℕ) → (s ≡ [] → ⊥) → last_byte s ≡ b → Ends (b ∷ []) s
ends_from_last b [] n e = absurd (n refl)
ends_from_last b (x ∷ s) n e =
    (_, end_from_reads 0 (x ∷ s) (b ∷ []) (omega arith) (λ i l. grind arith))

module _ (s : List ℕ) (h : Rules s) where
  -- A name that keeps the rules has no invalid byte and no asterisk.
  rules_valid : (b : ℕ) → Among b s → (invalid b ≡ false) × (b ≡ 42 → ⊥)
  rules_valid b m =
      let control : (b < 32) ⊎ Among b named4 → ⊥ =
      λ c. All-contains (λ x. (x < 32) ⊎ Contains named4 x → ⊥) s b h.no_control (contains_among s b m)
      (⊎_elim inl (λ k. inr (contains_among named4 b k)) c) in
      let wildcard : Among b named5 → ⊥ =
      λ c. All-contains (λ x. Contains named5 x → ⊥) s b h.no_wildcard (contains_among s b m) (contains_among named5 b c) in
      let back : b ≡ 92 → ⊥ = λ e. h.no_backslash (subst (Contains s) e (contains_among s b m)) in
      (grind (arith, nat_tests), λ e. wildcard (inr (inl e)))

  -- With a slash before the name, two neighbours that are not a slash and a dot may follow each other.
  rules_near : (f : List ℕ) (x y : ℕ) (r : List ℕ) → 47 ∷ s ≡ f ++ x ∷ (y ∷ r) → (x ≡ 47 → y ≡ 46 → ⊥)
      → fault_after x y ≡ allowed
  rules_near [] x y r e n =
      let t : s ≡ y ∷ r = cc in
      let slash : x ≡ 47 = cc in
      let v = rules_valid y (subst (Among y) (sym t) (inl refl)) in
      fault_after_passes x y v.0 v.1 (λ p _. omega arith) n (λ p _. omega arith)
      (λ _ p. h.no_slash_first (r, t ∙ ap (λ b. b ∷ r) p))
  rules_near (z ∷ f) x y r e n =
      let t : s ≡ f ++ x ∷ (y ∷ r) = cc in
      let v = rules_valid y (subst (Among y) (sym (t ∙ sym (append_assoc f (x ∷ []) (y ∷ r)))) (among_at (f ++ x ∷ []) y r)) in
      fault_after_passes x y v.0 v.1
      (λ p q. h.no_dots f r (t ∙ rw (p, q))) n (λ p q. h.no_reflog f r (t ∙ rw (p, q)))
      (λ p q. h.no_slashes f r (t ∙ rw (p, q)))

  -- A name that keeps the rules is sound.
  sound_from_rules : Sound s
  sound_from_rules =
      let r = split s in
      let dots = recursion_from_All Dotless (r.first ∷ r.others) (subst (All Dotless) r.all h.no_dot_first) in
      let ends = recursion_from_All (λ c. Ends dot_lock c → ⊥) (r.first ∷ r.others)
      (subst (All (λ c. Ends dot_lock c → ⊥)) r.all h.no_lock_last) in
      let locks = all_from_each Lockless (r.first ∷ r.others)
      (λ c m. lockless c (each_from_all (λ c. Ends dot_lock c → ⊥) (r.first ∷ r.others) ends c m)) in
      record {
        some = h.some_byte;
        follows = follows_parts r.parts 47 (λ _. dots.0) dots.1 rules_near;
        unlocked = parts_unlocked r.parts [] locks.0 locks.1;
        no_slash_last = λ e. h.no_slash_last (ends_from_last 47 s h.some_byte e);
        no_dot_last = λ e. h.no_dot_last (ends_from_last 46 s h.some_byte e);
      }

-- A name that keeps the rules is allowed.
pub allowed_from_rules : (s : List ℕ) → Rules s → tag_name s ≡ allowed
allowed_from_rules s h = allowed_from_sound s (sound_from_rules s h)

-- No error stands for an allowed name.
refusal_never : (e : Error) → refusal e ≡ allowed → ⊥
refusal_never e h =
    never 0 nothing (sym (ap (λ w. first_refusal w (refused 0 nothing)) h) ∙ (refusal_decides e (refused 0 nothing) ∙ h))

-- A result that stands for the answer is Ok exactly where the name keeps the rules.
pub decides_rules : {T : Type 0} (r : Result T Error) (s : List ℕ) → answer_of r ≡ tag_name s → Decides (is_ok r) (Rules s)
decides_rules (Ok v) s e = (λ _. rules_from_allowed s (sym e), λ _. refl)
decides_rules (Err x) s e =
    (λ z. absurd (false≢true z), λ k. absurd (refusal_never x (e ∙ allowed_from_rules s k)))
