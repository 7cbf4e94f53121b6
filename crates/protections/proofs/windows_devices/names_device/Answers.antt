-- The names are those of the list.
use Rattle.std.proofs.Common.{[], false, ◌∙◌, codes, rules}
use Rattle.std.specs.Prelude.{bytes_eq}
use Rattle.protections.specs.NameEnds.{ended_key}
use Rattle.protections.proofs.Devices.{too_short, by_letters, device_decides}
use Rattle.protections.proofs.Equal.{tested}
use Rattle.protections.proofs.windows_devices.names_device.Goals as goal

pub returns-in_default : goal.returns-in_default
returns-in_default c =
    let v = too_short c.args.component.now (search rules) in record { value = v; decides = device_decides _ _ v }

pub returns : goal.returns
returns c =
    let v =
    by_letters c.args.component.now _ _ _ _ (search rules) c.to_ascii_lowercase.ensures.value c.to_ascii_lowercase-2.ensures.value
    c.to_ascii_lowercase-3.ensures.value
    (tested (λ rest. bytes_eq (ended_key (codes ".:") (codes " ") rest.now) []) false c.past_device.result c.is_some_and.result _ c.is_some_and.ensures (λ rest h. search rules) ∙ c.past_device.ensures)
    in
    record { value = v; decides = device_decides _ _ v }
