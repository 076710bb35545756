use Rattle.fleet_search.proofs.Words.{◌≡◌, ◌≤◌, ◌*◌, [], MAX_HORIZON, is_passable, IsSumOfDistances}
use Rattle.fleet_search.proofs.alone.sum_of_distances.Given as goal

abbrev pub invariant-loop-agent : goal.invariant-loop-agent
invariant-loop-agent l = record {
  nobody : l.tables.nobody ≡ [];
  grid : l.tables.distances.grid ≡ l.checked.grid;
  summed : IsSumOfDistances (is_passable l.checked.grid) l.checked.instance l.agent l.sum;
  few : l.sum ≤ MAX_HORIZON * l.agent;
}
