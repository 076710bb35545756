use Rattle.fleet_verify.proofs.CriticalPaths.{IsLatestOf}
use Rattle.fleet_verify.proofs.times.Times.latest.Given as goal

abbrev pub invariant-loop-agent : goal.invariant-loop-agent
invariant-loop-agent g l = record { latest : IsLatestOf (g.P.ProgramView.program l.self.program) (g.C.ActionCosts.cost l.self.costs) l.agent l.latest }
