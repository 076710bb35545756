use Rattle.std.proofs.Common.{arith}
use Rattle.fleet_text.proofs.TextLaws.{length-lines}
use Rattle.fleet_text.proofs.lines.Cursor.new.Goals as goal

pub returns-clause-few : goal.returns-clause-few
returns-clause-few c = omega (arith, length-lines c.args.text.now)
