use Rattle.std.proofs.Common.{◌<◌}
use Rattle.fleet_needs.proofs.settled.latest_await.Given as goal

abbrev pub invariant-loop-k : goal.invariant-loop-k
invariant-loop-k g l = l.latest < l.count
