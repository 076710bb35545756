use Rattle.std.proofs.Common.{◌≡◌, ◌≤◌, ◌<◌, ◌^◌, decimal, length, arith}
use Rattle.std.proofs.lemmas.Fmt.{length-decimal-le}
use Rattle.fleet_text.proofs.DigitLemmas.{length-tens_text}
use Rattle.fleet_text.proofs.numbered.write_front.Goals as goal

fewer : (n m : _) → n ≡ m → m < 2 ^ 16 → length (decimal n) ≤ 5
fewer n m same fits = length-decimal-le 5 n (omega arith) (omega arith) (omega arith)

pub write_byte-end-requires-clause-room : goal.write_byte-end-requires-clause-room
write_byte-end-requires-clause-room c = omega (arith, length-tens_text c.args.tens c.requires, c.write_tens-end.ensures.start)

pub write_number-end-requires-clause-room : goal.write_number-end-requires-clause-room
write_number-end-requires-clause-room c =
    omega (arith, length-tens_text c.args.tens c.requires, fewer c.from.result c.args.owner c.from.ensures (omega arith), c.write_tens-end.ensures.start, c.write_byte-end.ensures.start)

pub write_byte-requires-clause-room : goal.write_byte-requires-clause-room
write_byte-requires-clause-room c =
    omega (arith, length-tens_text c.args.tens c.requires, fewer c.from.result c.args.owner c.from.ensures (omega arith), c.write_tens-end.ensures.start, c.write_byte-end.ensures.start, c.write_number-end.ensures.start)
