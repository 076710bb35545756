use Rattle.fleet_verify.proofs.Ranges.{AwaitsRightTo}
use Rattle.fleet_verify.proofs.agents.are_in_range.Given as goal

abbrev pub invariant-loop-k : goal.invariant-loop-k
invariant-loop-k g l = AwaitsRightTo (g.P.ProgramView.program l.program) l.agent l.action l.k
