-- What ends in .lock
use Rattle.std.proofs.Common.{◌≡◌, ℕ, ◌+◌, ◌-◌, ◌<◌, ◌≤◌, true, leb, List, [], ◌∷◌, ◌++◌, length, get_or, Decides, sym, ap, ◌∙◌, subst, arith}
use Rattle.std.proofs.lemmas.List.Prefix.{end_from_reads}
use Rattle.std.proofs.lemmas.List.{append_assoc, get_or-append-add, length-append}
use Rattle.std.proofs.lemmas.Bool.{and_parts, leb-true, le-leb}
use Rattle.std.proofs.lemmas.Bool.Decides.{nat_tests, same_from_decides, Decides-like}
use Rattle.tag.specs.Bytes.{dot_lock, ends_in_lock}
use Rattle.tag.specs.Fronts.{Ends}
use Rattle.tag.proofs.Members.{Among, among_at}

-- The byte at k from the end does not depend on what stands far before it.
back_get_d : (p c : List ℕ) (k : ℕ) → k ≤ length c → get_or (p ++ c) (length (p ++ c) - k) 0 ≡ get_or c (length c - k) 0
back_get_d p c k h =
    let e : length (p ++ c) - k ≡ length p + (length c - k) = simp length-append (omega arith) in
    rw e (get_or-append-add p c (length c - k) 0)

-- .lock at the end of five bytes or more does not depend on what stands before them.
lock_append : (p c : List ℕ) → 5 ≤ length c → ends_in_lock (p ++ c) ≡ ends_in_lock c
lock_append p c h =
    let l : 5 ≤ length (p ++ c) = simp length-append (omega arith) in
    rw (le-leb 5 (length c) h, le-leb 5 (length (p ++ c)) l)
    (rw (
      back_get_d p c 5 h,
      back_get_d p c 4 (omega arith),
      back_get_d p c 3 (omega arith),
      back_get_d p c 2 (omega arith),
      back_get_d p c 1 (omega arith),
    ))

-- What ends with .lock passes the test.
lock_from_ends : (s : List ℕ) → Ends dot_lock s → ends_in_lock s ≡ true
lock_from_ends s h = ap ends_in_lock h.1 ∙ lock_append h.0 dot_lock (omega arith)

-- What passes the test has the bytes of .lock as its last five.
lock_reads : (s : List ℕ) → ends_in_lock s ≡ true → (i : ℕ) → i < 5 → get_or s (length s - 5 + i) 0 ≡ get_or dot_lock i 0
lock_reads s h i l = grind (arith, nat_tests)

-- What passes the test ends with .lock
ends_from_lock : (s : List ℕ) → ends_in_lock s ≡ true → Ends dot_lock s
ends_from_lock s h =
    (_, end_from_reads 0 s dot_lock (leb-true 5 (length s) (and_parts (leb 5 (length s)) _ h).0) (lock_reads s h))

-- The test decides whether the bytes end with .lock
pub lock_decides : (s : List ℕ) → Decides (ends_in_lock s) (Ends dot_lock s)
lock_decides s = (ends_from_lock s, lock_from_ends s)

-- What ends with .lock and has a slash ends with it after the slash, since no byte of .lock is a slash.
ends_after : (p c f : List ℕ) → p ++ 47 ∷ c ≡ f ++ dot_lock → Ends dot_lock c
ends_after [] c [] e = let z : ◌≡◌ {A = ℕ} 47 46 = cc in absurd (omega arith)
ends_after [] c (x ∷ f) e = (f, cc)
ends_after (y ∷ p) c [] e =
    let t : p ++ 47 ∷ c ≡ 108 ∷ (111 ∷ (99 ∷ (107 ∷ []))) = cc in
    let m = subst (Among 47) t (among_at p 47 c) in
    absurd (grind arith)
ends_after (y ∷ p) c (x ∷ f) e = ends_after p c f (cc)

-- Whether .lock stands at the end is decided by the bytes after a slash alone.
pub lock_after_slash : (p c : List ℕ) → ends_in_lock (p ++ 47 ∷ c) ≡ ends_in_lock c
lock_after_slash p c =
    same_from_decides (ends_in_lock (p ++ 47 ∷ c)) (ends_in_lock c)
    (Decides-like (ends_in_lock (p ++ 47 ∷ c)) (λ h. ends_after p c h.0 h.1)
    (λ h. (p ++ 47 ∷ h.0, ap (λ x. p ++ 47 ∷ x) h.1 ∙ sym (append_assoc p (47 ∷ h.0) dot_lock)))
    (lock_decides (p ++ 47 ∷ c)))
    (lock_decides c)
