use Rattle.std.proofs.Common.{◌≤◌, ◌<◌, ◌^◌, length, arith}
use Rattle.std.specs.Fmt.{decimal}
use Rattle.std.proofs.lemmas.Fmt.{length-decimal-le}
use Rattle.fleet_text.proofs.numbers.write_count.Goals as goal

few_digits : (n : _) → n < 2 ^ 32 → length (decimal n) ≤ 10
few_digits n small = length-decimal-le 10 n (omega arith) (omega arith) (omega arith)

pub write_number-requires-clause-room : goal.write_number-requires-clause-room
write_number-requires-clause-room c = omega (arith, few_digits c.args.number c.ranges.number.fits)

pub returns-clause-low : goal.returns-clause-low
returns-clause-low c = omega (arith, few_digits c.args.number c.ranges.number.fits)
