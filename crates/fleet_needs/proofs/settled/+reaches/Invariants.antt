use Rattle.std.proofs.Common.{◌≡◌, ◌+◌, ◌*◌, ◌≤◌, true, false}
use Rattle.fleet_needs.specs.{Critical.critical_cost, Settled.HasOpenNeed}
use Rattle.fleet_needs.proofs.Settling.{NoneIsReached}
use Rattle.fleet_needs.proofs.settled.+reaches.Given as goal

abbrev pub decreases-reaches : goal.decreases-reaches
decreases-reaches g l = 2 * l.steps.now

abbrev pub decreases-reaches_need : goal.decreases-reaches_need
decreases-reaches_need g l = 2 * l.steps.now + 1

abbrev pub invariant-reaches_need-loop-k : goal.invariant-reaches_need-loop-k
invariant-reaches_need-loop-k g l = record {
  fewer : l.steps ≤ l.fn.steps;
  apart : l.known ≡ true → NoneIsReached (g.P.ProgramView.program l.program) l.first.action l.action l.but l.k;
  unsure : l.known ≡ false → HasOpenNeed (g.P.ProgramView.program l.program) (critical_cost l.levels) l.first.action l.action l.but;
}
