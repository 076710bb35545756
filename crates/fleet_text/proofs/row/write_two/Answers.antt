use Rattle.std.proofs.Common.{◌≡◌, ◌≤◌, ◌<◌, ◌^◌, decimal, length, arith}
use Rattle.std.proofs.lemmas.Fmt.{length-decimal-le}
use Rattle.fleet_text.proofs.row.write_two.Goals as goal

-- a number of 32 bits has ten digits at most, and one of 16 bits five
few : (n m : _) → n ≡ m → m < 2 ^ 32 → length (decimal n) ≤ 10
few n m same fits = length-decimal-le 10 n (omega arith) (omega arith) (omega arith)

fewer : (n m : _) → n ≡ m → m < 2 ^ 16 → length (decimal n) ≤ 5
fewer n m same fits = length-decimal-le 5 n (omega arith) (omega arith) (omega arith)

pub write_number-end-requires-clause-room : goal.write_number-end-requires-clause-room
write_number-end-requires-clause-room c = omega (arith, few c.from.result c.args.second c.from.ensures (omega arith))

pub write_byte-end-requires-clause-room : goal.write_byte-end-requires-clause-room
write_byte-end-requires-clause-room c = omega (arith, few c.from.result c.args.second c.from.ensures (omega arith), c.write_number-end.ensures.start)

pub write_number-requires-clause-room : goal.write_number-requires-clause-room
write_number-requires-clause-room c =
    omega (arith, few c.from.result c.args.second c.from.ensures (omega arith), fewer c.from-2.result c.args.first c.from-2.ensures (omega arith), c.write_number-end.ensures.start, c.write_byte-end.ensures.start)
