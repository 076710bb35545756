use Rattle.fleet_needs.proofs.Words.{take, total_awaits, AreSettledBy}
use Rattle.fleet_needs.proofs.settled.settle_all.Given as goal

abbrev pub invariant-loop-agent : goal.invariant-loop-agent
invariant-loop-agent g l = AreSettledBy (g.P.ProgramView.program l.program) l.asked (total_awaits (take l.agent (g.P.ProgramView.program l.program))) l.implied
