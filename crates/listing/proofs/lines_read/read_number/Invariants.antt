-- The number that the digits so far spell.
use Rattle.std.proofs.Common.{◌≡◌, ◌^◌, ◌<◌, true, take}
use Rattle.listing.specs.Reading.{all_digits, value}
use Rattle.listing.proofs.lines_read.read_number.Given as goal

abbrev pub invariant-loop-digit : goal.invariant-loop-digit
invariant-loop-digit l = record {
  digits : all_digits (take l.digit-index l.digits) ≡ true;
  spelled : l.number ≡ value (take l.digit-index l.digits);
  below : l.number < 10 ^ l.digit-index;
}
