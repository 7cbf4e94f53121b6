-- Why a call is answered as it is, in terms of components, places and entries.
use Rattle.std.specs.Prelude.{◌≡◌, ℕ, ◌<◌, ◌≤◌, Bool, List, [], ◌∷◌, ◌++◌, length, Some, None, Option, Contains, slice_get, ◌≢◌}
use Rattle.tag.specs.Components.{components}
use Rattle.tag.specs.Answers.Answer.{allowed, refused}
use Rattle.protections.specs.declared.rules.Mode.{Mode}
use Rattle.meetings.specs.Meeting.{Meets}
use Rattle.register_model.specs.Entries.{Entry}
use Rattle.register_model.specs.Calls.{Call, Fault, Kept, Meaning, Outcome, State}
use Rattle.register_model.specs.Calls.Call.{enter, offer, remove, rename}
use Rattle.register_model.specs.Calls.Fault.{by_component, by_rulebook, by_state}
use Rattle.register_model.specs.Calls.Outcome.{accepted, declined}
use Rattle.register_model.specs.declared.TheConstants.{CAPACITY, LONGEST_NAME}

-- The file system passes a name when no component has a verdict; the mode is the last one's, and earlier ones have none.
abbrev pub Passes : Meaning → List ℕ → Option Mode → Type 0
Passes m x mode =
    (front : List (List ℕ)) (last : List ℕ) → components x ≡ front ++ last ∷ []
    → (m.verdict last mode ≡ None) × ((c : List ℕ) → Contains front c → m.verdict c None ≡ None)

-- The mode of a component before these: the name's where none comes after it, and else none.
abbrev pub mode_before : List (List ℕ) → Option Mode → Option Mode
mode_before [] mode = mode
mode_before (c ∷ cs) mode = None

-- The component at the index i has the verdict n, and none before it has any.
pub record VerdictAt (m : Meaning) (x : List ℕ) (mode : Option Mode) (n i : ℕ) : Type 0 where
  pub before : List (List ℕ)
  pub component : List ℕ
  pub after : List (List ℕ)
  pub parts : components x ≡ before ++ component ∷ after
  pub index : length before ≡ i
  pub verdict : m.verdict component (mode_before after mode) ≡ Some n
  pub none_before : (c : List ℕ) → Contains before c → m.verdict c None ≡ None

-- The name is fit to be kept: it is short enough, the rulebook allows it, and the file system passes it.
pub record IsFit (m : Meaning) (x : List ℕ) (mode : Option Mode) : Type 0 where
  pub short : length x ≤ LONGEST_NAME
  pub allowed_by_rules : m.ruling x ≡ allowed
  pub passed : Passes m x mode

-- What is wrong with a name and mode by themselves.
pub data IsUnfit (m : Meaning) (x : List ℕ) (mode : Option Mode) : Fault → Type 0 where
  too_long : LONGEST_NAME < length x → IsUnfit m x mode (by_state 32 0)
  against_rules : {n v : ℕ} → length x ≤ LONGEST_NAME → m.ruling x ≡ refused n v
      → IsUnfit m x mode (by_rulebook m.kind n v)
  not_passed : {n i : ℕ} → length x ≤ LONGEST_NAME → m.ruling x ≡ allowed → VerdictAt m x mode n i
      → IsUnfit m x mode (by_component n i)

-- The name of the entry meets x, and it is not the name that is left aside, if any is.
abbrev pub MeetsBut :
    (List ℕ → List ℕ → Bool) → Option (List ℕ) → List ℕ → Entry (Option Mode) → Type 0
MeetsBut together aside x e = Meets together e.name x × (aside ≢ Some e.name)

-- None of these names meets x, or some name does; the name `aside` does not count.
abbrev pub NoneMeets : (List ℕ → List ℕ → Bool) → Option (List ℕ) → List ℕ → Kept → Type 0
NoneMeets together aside x es =
    (e : Entry (Option Mode)) → Contains es e → MeetsBut together aside x e → ⊥

abbrev pub SomeMeets : (List ℕ → List ℕ → Bool) → Option (List ℕ) → List ℕ → Kept → Type 0
SomeMeets together aside x es =
    (e : Entry (Option Mode)) × Contains es e × MeetsBut together aside x e

-- The name at the place p meets x, and none before it does.
pub record MeetsFirst (together : List ℕ → List ℕ → Bool) (aside : Option (List ℕ)) (x : List ℕ)
    (es : Kept) (p : ℕ) : Type 0 where
  pub before : Kept
  pub entry : Entry (Option Mode)
  pub after : Kept
  pub parts : es ≡ before ++ entry ∷ after
  pub place : length before ≡ p
  pub meets : MeetsBut together aside x entry
  pub none_before : NoneMeets together aside x before

-- It is the place of the first kept name that meets x, or none does.
abbrev pub IsFirstMeeting :
    (List ℕ → List ℕ → Bool) → Option (List ℕ) → List ℕ → Kept → Option ℕ → Type 0
IsFirstMeeting together aside x es None = NoneMeets together aside x es
IsFirstMeeting together aside x es (Some p) = MeetsFirst together aside x es p

-- The entry at the place p has the name x.
abbrev pub NamedAt : List ℕ → Kept → ℕ → Type 0
NamedAt x es p = (e : Entry (Option Mode)) × (slice_get es p ≡ Some e) × (e.name ≡ x)

-- Some entry has the name x, or none has.
abbrev pub IsNamed : List ℕ → Kept → Type 0
IsNamed x es = (p : ℕ) × NamedAt x es p

abbrev pub NoneNamed : List ℕ → Kept → Type 0
NoneNamed x es = (e : Entry (Option Mode)) → Contains es e → e.name ≢ x

-- Where the name x stands, if it does.
abbrev pub StandsAt : List ℕ → Kept → Option ℕ → Type 0
StandsAt x es None = NoneNamed x es
StandsAt x es (Some p) = NamedAt x es p

-- Why an enter of x is answered so.
pub data Enters (m : Meaning) (es : Kept) (x : List ℕ) (mode : Option Mode) : Outcome → Type 0 where
  unfit : {f : Fault} → IsUnfit m x mode f → Enters m es x mode (declined f)
  met : {p : ℕ} → IsFit m x mode → MeetsFirst m.together None x es p
      → Enters m es x mode (declined (by_state 41 p))
  full : IsFit m x mode → NoneMeets m.together None x es → CAPACITY ≤ length es
      → Enters m es x mode (declined (by_state 42 0))
  entered : {p : ℕ} → IsFit m x mode → NoneMeets m.together None x es → length es < CAPACITY
      → Enters m es x mode (accepted p)

-- Why an offer of a text is answered so: as the enter of its mended text is.
pub data Offers (m : Meaning) (es : Kept) (text : List ℕ) : Outcome → Type 0 where
  too_long : LONGEST_NAME < length text → Offers m es text (declined (by_state 32 0))
  mended : {o : Outcome} → length text ≤ LONGEST_NAME → Enters m es (m.mended text) None o
      → Offers m es text o

-- Why a rename of old to new is answered so.
pub data Renames (m : Meaning) (es : Kept) (old new : List ℕ) (mode : Option Mode)
    : Outcome → Type 0 where
  unfit : {f : Fault} → IsUnfit m new mode f → Renames m es old new mode (declined f)
  not_kept : IsFit m new mode → NoneNamed old es
      → Renames m es old new mode (declined (by_state 43 0))
  met : {p : ℕ} → IsFit m new mode → IsNamed old es → MeetsFirst m.together (Some old) new es p
      → Renames m es old new mode (declined (by_state 41 p))
  renamed : {p : ℕ} → IsFit m new mode → IsNamed old es → NoneMeets m.together (Some old) new es
      → Renames m es old new mode (accepted p)

-- Why a remove of x is answered so.
pub data Removes (es : Kept) (x : List ℕ) : Outcome → Type 0 where
  not_kept : NoneNamed x es → Removes es x (declined (by_state 43 0))
  removed : {p : ℕ} → NamedAt x es p → Removes es x (accepted p)

-- Why a call is answered so.
abbrev pub Because : Meaning → State → Call → Outcome → Type 0
Because m s (enter x n mode) o = Enters m s.kept x mode o
Because m s (offer text n) o = Offers m s.kept text o
Because m s (rename old new mode) o = Renames m s.kept old new mode o
Because m s (remove x) o = Removes s.kept x o

-- `more` is `fewer` with one more entry, which stands at the place p and has this name, number and mode.
pub record OneMore (x : List ℕ) (n : ℕ) (mode : Option Mode) (p : ℕ) (fewer more : Kept)
    : Type 0 where
  pub front : Kept
  pub back : Kept
  pub without : fewer ≡ front ++ back
  pub with_it : more ≡ front ++ record { name = x; number = n; mode = mode } ∷ back
  pub place : length front ≡ p

-- What is said of the place that is answered, where one is.
abbrev pub IfAccepted : Outcome → (ℕ → Type 0) → Type 0
IfAccepted (accepted p) says = says p
IfAccepted (declined f) says = Unit {0}

-- The place that an accepted call answers is that of its entry: after the call, and for a remove before it. All other
-- entries stay as they were, and a renamed entry keeps its number.
abbrev pub Placed : Meaning → State → State → Call → Outcome → Type 0
Placed m before after (enter x n mode) o =
    IfAccepted o (λ p. OneMore x n mode p before.kept after.kept)
Placed m before after (offer text n) o =
    IfAccepted o (λ p. OneMore (m.mended text) n None p before.kept after.kept)
Placed m before after (rename old new mode) o =
    IfAccepted o (λ p. (others : Kept) × (q n : ℕ) × (was : Option Mode)
    × OneMore old n was q others before.kept × OneMore new n mode p others after.kept)
Placed m before after (remove x) o =
    IfAccepted o (λ p. (n : ℕ) × (was : Option Mode) × OneMore x n was p after.kept before.kept)
