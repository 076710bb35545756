use Rattle.fleet_plan.specs.Sweep.{HasComeTo}
use Rattle.fleet_plan.proofs.sweep.Sweep.run.Given as goal

abbrev pub invariant-loop-time : goal.invariant-loop-time
invariant-loop-time l = HasComeTo l.grid l.plan l.time l.self
