use Rattle.fleet_verify.specs.Times.{ArrivesAt, EachFits}
use Rattle.fleet_verify.proofs.times.Times.arrivals.Given as goal

abbrev pub invariant-loop-i : goal.invariant-loop-i
invariant-loop-i g l = EachFits (ArrivesAt (g.P.ProgramView.program l.self.program) (g.C.ActionCosts.cost l.self.costs)) l.i l.arrivals.items
