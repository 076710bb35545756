use Rattle.fleet_verify.specs.Times.{IsStretchTo}
use Rattle.fleet_verify.proofs.times.Times.way_on.Given as goal

abbrev pub invariant-loop-first : goal.invariant-loop-first
invariant-loop-first g l = IsStretchTo (g.P.ProgramView.program l.self.program) (g.C.ActionCosts.cost l.self.costs) l.fn.action l.fn.end l.first l.time

abbrev pub decreases-loop-first : goal.decreases-loop-first
decreases-loop-first g l = l.first
