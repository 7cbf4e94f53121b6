-- What follows the letters is found in the list of devices.
use Rattle.std.proofs.Common.{◌∙◌, arith}
use Rattle.protections.specs.NameEnds.{continuations}
use Rattle.protections.proofs.Devices.{with_list, without_list, alone, numbered_com, numbered_lpt}
use Rattle.protections.proofs.windows_devices.past_device.Goals as goal
use Rattle.protections.proofs.windows_devices.past_device.Goals.{in-97+in-117+in-120-1, in-110+in-117+in-108-1, in-112+in-114+in-110-1, in_default-via-in-97+in-117+in_default, in_default-via-in-97+in_default, in_default-via-in-110+in-117+in_default, in_default-via-in-110+in_default, in_default-via-in-112+in-114+in_default, in_default-via-in-112+in_default, in_default-via-in-99+in-111+in_default, in_default-via-in-99+in_default, in_default-via-in-108+in-112+in_default, in_default-via-in-108+in_default, in_default-via-in_default}

pub returns-in-aux : goal.returns-in-aux
unfolding continuations
returns-in-aux c =
    elim c.in-aux-1.branch [
      | in-97+in-117+in-120-1 w ↦ with_list c.args.letters c.args.rest.now (omega arith) 97 117 120 _ (omega arith) (omega arith) (omega arith) (alone c.args.rest.now)
      | in-110+in-117+in-108-1 w ↦ with_list c.args.letters c.args.rest.now (omega arith) 110 117 108 _ (omega arith) (omega arith) (omega arith) (alone c.args.rest.now)
      | in-112+in-114+in-110-1 w ↦ with_list c.args.letters c.args.rest.now (omega arith) 112 114 110 _ (omega arith) (omega arith) (omega arith) (alone c.args.rest.now)
    ]

pub returns-in-com : goal.returns-in-com
unfolding continuations
returns-in-com c =
    with_list c.args.letters c.args.rest.now (omega arith) 99 111 109 _ (omega arith) (omega arith) (omega arith) (c.past_digit.ensures ∙ numbered_com c.args.rest.now)

pub returns-in-lpt : goal.returns-in-lpt
unfolding continuations
returns-in-lpt c =
    with_list c.args.letters c.args.rest.now (omega arith) 108 112 116 _ (omega arith) (omega arith) (omega arith) (c.past_digit-in-lpt.ensures ∙ numbered_lpt c.args.rest.now)

pub returns-in_default : goal.returns-in_default
returns-in_default c =
    elim c.in_default.branch [
      | in_default-via-in-97+in-117+in_default w ↦ without_list c.args.letters c.args.rest.now (omega arith) (λ d. omega arith)
      | in_default-via-in-97+in_default w ↦ without_list c.args.letters c.args.rest.now (omega arith) (λ d. omega arith)
      | in_default-via-in-110+in-117+in_default w ↦ without_list c.args.letters c.args.rest.now (omega arith) (λ d. omega arith)
      | in_default-via-in-110+in_default w ↦ without_list c.args.letters c.args.rest.now (omega arith) (λ d. omega arith)
      | in_default-via-in-112+in-114+in_default w ↦ without_list c.args.letters c.args.rest.now (omega arith) (λ d. omega arith)
      | in_default-via-in-112+in_default w ↦ without_list c.args.letters c.args.rest.now (omega arith) (λ d. omega arith)
      | in_default-via-in-99+in-111+in_default w ↦ without_list c.args.letters c.args.rest.now (omega arith) (λ d. omega arith)
      | in_default-via-in-99+in_default w ↦ without_list c.args.letters c.args.rest.now (omega arith) (λ d. omega arith)
      | in_default-via-in-108+in-112+in_default w ↦ without_list c.args.letters c.args.rest.now (omega arith) (λ d. omega arith)
      | in_default-via-in-108+in_default w ↦ without_list c.args.letters c.args.rest.now (omega arith) (λ d. omega arith)
      | in_default-via-in_default w ↦ without_list c.args.letters c.args.rest.now (omega arith) (λ d. omega arith)
    ]
