use Rattle.fleet_needs.proofs.JoinLaws.{AreFilledTo}
use Rattle.fleet_needs.proofs.schedule.fill.Given as goal

abbrev pub invariant-loop-place : goal.invariant-loop-place
invariant-loop-place l = AreFilledTo l.place l.fn.noted l.noted
