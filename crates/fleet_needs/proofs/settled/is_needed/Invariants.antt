use Rattle.std.proofs.Common.{◌-◌}
use Rattle.fleet_needs.proofs.settled.is_needed.Given as goal

abbrev pub decreases-loop-from : goal.decreases-loop-from
decreases-loop-from g l = l.count - l.from
