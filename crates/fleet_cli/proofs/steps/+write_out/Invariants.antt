use Rattle.std.proofs.Common.{length}
use Rattle.fleet_cli.proofs.steps.+write_out.Given as goal

abbrev pub decreases-write_out : goal.decreases-write_out
decreases-write_out g l = length l.written.now
