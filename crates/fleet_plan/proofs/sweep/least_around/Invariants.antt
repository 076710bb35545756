use Rattle.fleet_plan.proofs.AroundLaws.{IsAround}
use Rattle.fleet_plan.proofs.sweep.least_around.Given as goal

abbrev pub invariant-loop-step : goal.invariant-loop-step
invariant-loop-step l = IsAround l.ahead l.first l.agent l.least l._step
