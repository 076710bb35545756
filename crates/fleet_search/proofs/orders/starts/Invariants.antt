use Rattle.std.proofs.Common.{◌≡◌, length}
use Rattle.fleet_search.proofs.orders.starts.Given as goal

abbrev pub invariant-loop-agent : goal.invariant-loop-agent
invariant-loop-agent l = length l.paths.items ≡ l.agent
