use Rattle.fleet_verify.specs.Times.{IsFreeTo, EachFits}
use Rattle.fleet_verify.proofs.times.Times.free_counts.Given as goal

abbrev pub invariant-loop-i : goal.invariant-loop-i
invariant-loop-i g l = EachFits (IsFreeTo (g.P.ProgramView.program l.self.program) (g.C.ActionCosts.cost l.self.costs)) l.i l.counts.items
