use Rattle.fleet_plan.proofs.Words.{◌≡◌, ◌≤◌, [], length, paths_at, MAX_AGENTS}
use Rattle.fleet_plan.proofs.reading.paths_of.Given as goal

abbrev pub invariant-loop-line : goal.invariant-loop-line
invariant-loop-line l = record {
  few : length l.paths.items ≤ MAX_AGENTS;
  so_far : paths_at l.paths.items l.lines ≡ paths_at [] l.fn.lines;
}

abbrev pub decreases-loop-line : goal.decreases-loop-line
decreases-loop-line l = length l.lines
