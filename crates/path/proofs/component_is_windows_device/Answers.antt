-- No name of a device has fewer than three bytes.
use Rattle.protections.proofs.Devices.{too_short, device_decides}
use Rattle.path.proofs.component_is_windows_device.Goals as goal

pub returns-then-input-lt3 : goal.returns-then-input-lt3
returns-then-input-lt3 c =
    let v = too_short c.args.input.now c.if-input-lt3.true in
    record { value = v; decides = device_decides c.args.input.now _ v }
