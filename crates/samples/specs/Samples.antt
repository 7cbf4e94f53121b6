-- Samples of the rules, each with what must come of it by the definitions.
use Rattle.std.specs.Prelude.{◌≡◌, ℕ, Bool, true, false, List, [], ◌∷◌, Some, None, codes, Option}
use Rattle.tag.specs.Answers.{Answer, Value}
use Rattle.tag.specs.Answers.Answer.{refused}
use Rattle.tag.specs.Answers.Value.{nothing, byte, name}
use Rattle.reference.specs.Names.{partial_name}
use Rattle.mending.specs.Mender.{mended}
use Rattle.protections.specs.declared.rules.Mode.{Mode}
use Rattle.protections.specs.declared.rules.Mode.TheVariants.{Symlink}
use Rattle.path.specs.declared.Options.{Options}
use Rattle.path.specs.Rule.{component_rule}
use Rattle.meetings.specs.Meeting.{Meets}
use Rattle.register_model.specs.Entries.{new_entry}
use Rattle.register_model.specs.Calls.{renaming}
use Rattle.register_model.specs.Calls.Outcome.{accepted}
use Rattle.runs.specs.Campus.{campus}

-- As what a component is checked: with any mode, or as a symbolic link.
pub data Checked : Type 0 where
  anyhow : Checked
  as_link : Checked

-- How a protection has to be set.
pub data Setting : Type 0 where
  on : Setting
  off : Setting
  either : Setting

-- How the protections of Windows names, HFS+ and NTFS have to be set.
pub record Settings : Type 0 where
  pub windows : Setting
  pub hfs : Setting
  pub ntfs : Setting

-- A sample, with what must come of it.
pub data Sample : Type 0 where
  -- a partial name, and its refusal
  partial : List ℕ → Answer Value → Sample
  -- a text, and what it is mended to
  text : List ℕ → List ℕ → Sample
  -- a component, as what it is checked, how the protections have to be set, and the answer
  component : List ℕ → Checked → Settings → Option ℕ → Sample
  -- two names that meet
  meeting : List ℕ → List ℕ → Sample
  -- a kept name, and a name that it may be given instead
  rename : List ℕ → List ℕ → Sample

-- The component is checked so with this mode.
abbrev pub Fits : Checked → Option Mode → Type 0
Fits anyhow mode = Unit {0}
Fits as_link mode = mode ≡ Some Symlink

-- A protection that is on or not is as it has to be set.
abbrev pub IsSet : Setting → Bool → Type 0
IsSet on protects = protects ≡ true
IsSet off protects = protects ≡ false
IsSet either protects = Unit {0}

-- What a sample says.
abbrev pub IsSo : Sample → Type 0
IsSo (partial s a) = partial_name s ≡ a
IsSo (text s t) = mended s ≡ t
-- with every mode that fits, and every setting of the protections that are `either`
IsSo (component s checked set a) =
    (mode : Option Mode) (o : Options) → Fits checked mode
    → IsSet set.windows o.protect_windows → IsSet set.hfs o.protect_hfs
    → IsSet set.ntfs o.protect_ntfs
    → component_rule s mode o ≡ a
-- on every file system
IsSo (meeting x y) = (together : List ℕ → List ℕ → Bool) → Meets together x y
-- in a register of partial names on HFS+ over NTFS that keeps the one name, whatever its number and mode
IsSo (rename old new) =
    (n : ℕ) (mode : Option Mode)
    → renaming campus (new_entry old n mode ∷ []) old new None ≡ accepted 0

-- The samples. The bytes 226 130 are the start of a character of three bytes, and no character begins with 240 128.
abbrev pub samples : List Sample
samples =
    partial (codes "/") (refused 10 nothing)
    ∷ partial (codes "@") (refused 13 (name (codes "@")))
    ∷ partial (codes ".lock/x") (refused 5 nothing)
    ∷ partial (codes ".a b") (refused 1 (byte 32))
    ∷ text (codes "a.lock.lock") (codes "a")
    ∷ text (codes "@.lock") (codes "-")
    ∷ text (codes "a..lock") (codes "a")
    ∷ text (codes ".lock") (codes "-lock")
    ∷ component (codes "LPT0") anyhow (record { windows = on; hfs = either; ntfs = on })
    (Some 24)
    ∷ component (codes "COM0") anyhow (record { windows = on; hfs = either; ntfs = on })
    None
    ∷ component (226 ∷ 130 ∷ codes ":") anyhow
    (record { windows = on; hfs = either; ntfs = either }) (Some 23)
    ∷ component (240 ∷ 128 ∷ codes ":") anyhow (record { windows = on; hfs = off; ntfs = off })
    None
    ∷ component (codes "~1000000") as_link (record { windows = either; hfs = either; ntfs = on })
    (Some 27)
    ∷ component (codes ".git:/x") anyhow (record { windows = either; hfs = either; ntfs = either })
    (Some 22)
    ∷ meeting (codes "a") (codes "a/b")
    ∷ rename (codes "a") (codes "a/b")
    ∷ []
