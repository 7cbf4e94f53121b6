-- What text mending makes of a byte string, as relations that compute nothing.
use Rattle.std.specs.Prelude.{◌≡◌, ℕ, List, [], ◌∷◌, ◌++◌, ◌≢◌, codes}
use Rattle.std.specs.Str.{byte}
use Rattle.tag.specs.Bytes.{dot_lock}
use Rattle.tag.specs.Components.{components, joined}
use Rattle.tag.specs.Fronts.{Ends}
use Rattle.tag.specs.Refusals.{IsForbidden}

-- What becomes of one byte of a component, by the bytes `front` of the component that stand before it.
pub data Becomes (front : List ℕ) : ℕ → List ℕ → Type 0 where
  forbidden : {b : ℕ} → IsForbidden b → Becomes front b (codes "-")
  asterisk : Becomes front (byte "*") (codes "-")
  brace_after_at : Ends (codes "@") front → Becomes front (byte "{") (codes "-")
  dot_at_start : front ≡ [] → Becomes front (byte ".") (codes "-")
  dot_after_dot : Ends (codes ".") front → Becomes front (byte ".") []
  any_other : {b : ℕ} → ¬ IsForbidden b → b ≢ byte "*" → (b ≡ byte "{" → ¬ Ends (codes "@") front)
      → (b ≡ byte "." → (front ≢ []) × ¬ Ends (codes ".") front) → Becomes front b (b ∷ [])

-- What becomes of the bytes of a component that stand after `front`, one by one.
pub data AllBecome : List ℕ → List ℕ → List ℕ → Type 0 where
  none : {front : List ℕ} → AllBecome front [] []
  more : {front rest new others : List ℕ} {b : ℕ}
      → Becomes front b new → AllBecome (front ++ b ∷ []) rest others
      → AllBecome front (b ∷ rest) (new ++ others)

-- The second is the first without .lock at its end, taken off as often as it stands there.
pub data LosesLock : List ℕ → List ℕ → Type 0 where
  kept : {c : List ℕ} → ¬ Ends dot_lock c → LosesLock c c
  taken_off : {c left : List ℕ} → LosesLock c left → LosesLock (c ++ dot_lock) left

-- A component becomes another: each byte first, then .lock at the end.
pub record ComponentBecomes (c new : List ℕ) : Type 0 where
  pub bytes : List ℕ
  pub each : AllBecome [] c bytes
  pub end : LosesLock bytes new

-- The components that have a byte, in order, each as it becomes.
pub data ComponentsBecome : List (List ℕ) → List (List ℕ) → Type 0 where
  none : ComponentsBecome [] []
  left_out : {cs new : List (List ℕ)} → ComponentsBecome cs new → ComponentsBecome ([] ∷ cs) new
  stays : {c new : List ℕ} {cs others : List (List ℕ)}
      → c ≢ [] → ComponentBecomes c new → ComponentsBecome cs others
      → ComponentsBecome (c ∷ cs) (new ∷ others)

-- A dot at the end of a text becomes a dash.
pub data EndBecomes (s : List ℕ) : List ℕ → Type 0 where
  dot_last : (front : List ℕ) → s ≡ front ++ codes "." → EndBecomes s (front ++ codes "-")
  any_other : ¬ Ends (codes ".") s → EndBecomes s s

-- The text @ and the empty one become a dash.
pub data WholeBecomes (s : List ℕ) : List ℕ → Type 0 where
  empty : s ≡ [] → WholeBecomes s (codes "-")
  at_alone : s ≡ codes "@" → WholeBecomes s (codes "-")
  any_other : s ≢ [] → s ≢ codes "@" → WholeBecomes s s

-- Mending makes the text t of s: its components, mended and joined with slashes, and then the end of the whole.
pub record Mends (s t : List ℕ) : Type 0 where
  pub parts : List (List ℕ)
  pub each : ComponentsBecome (components s) parts
  pub text : List ℕ
  pub end : EndBecomes (joined parts) text
  pub whole : WholeBecomes text t
