use Rattle.std.proofs.Common.{arith}
use Rattle.std.proofs.lemmas.Fmt.{length-decimal-le}
use Rattle.fleet_text.proofs.row.put_number_then.Goals as goal

pub write_number-start-requires-clause-room : goal.write_number-start-requires-clause-room
write_number-start-requires-clause-room g c =
    let short = length-decimal-le 20 c.args.number (omega arith) (omega arith) c.ranges.number.fits in
    omega (arith, short, c.write_byte-end.ensures.start)
