-- The key is what is yielded without its end, and its numbers are code points since the component's are bytes.
use Rattle.std.proofs.Common.{◌<◌, refl, arith}
use Rattle.std.proofs.ByRecursion.{All-from_get_or}
use Rattle.protections.proofs.keys.Cursor.new.Goals as goal

pub returns : goal.returns
returns g c =
    let s = c.args.component.now in
    let bytes = All-from_get_or (λ b. b < 256) s 0 (λ i h. omega (arith, c.type_inv.component i)) in
    record {
      numbers = refl;
      key = g.met.P.Keyed.key_of_yielded c.args.protection.now s;
      bound = g.met.P.Keyed.bounded c.args.protection.now s bytes;
    }
