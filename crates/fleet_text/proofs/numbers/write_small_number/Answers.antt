use Rattle.std.proofs.Common.{◌^◌, ◌<◌, ◌≤◌, length, arith}
use Rattle.std.specs.Fmt.{decimal}
use Rattle.std.proofs.lemmas.Fmt.{length-decimal-le, decimal_nonempty}
use Rattle.fleet_text.proofs.numbers.write_small_number.Goals as goal

few_digits : (n : _) → n < 2 ^ 16 → (length (decimal n) ≤ 5) × (0 < length (decimal n))
few_digits n small = (length-decimal-le 5 n (omega arith) (omega arith) (omega arith), decimal_nonempty n (omega arith))

pub write_number-requires-clause-room : goal.write_number-requires-clause-room
write_number-requires-clause-room c = omega (arith, (few_digits c.args.number c.ranges.number.fits).0)

pub returns-clause-low : goal.returns-clause-low
returns-clause-low c = omega (arith, (few_digits c.args.number c.ranges.number.fits).0)

pub returns-clause-high : goal.returns-clause-high
returns-clause-high c = omega (arith, (few_digits c.args.number c.ranges.number.fits).1)
