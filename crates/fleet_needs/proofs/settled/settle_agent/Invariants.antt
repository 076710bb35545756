use Rattle.fleet_needs.proofs.Words.{◌+◌, first_await, AreSettledBy}
use Rattle.fleet_needs.proofs.settled.settle_agent.Given as goal

abbrev pub invariant-loop-finished : goal.invariant-loop-finished
invariant-loop-finished g l = AreSettledBy (g.P.ProgramView.program l.program) l.asked (first_await (g.P.ProgramView.program l.program) (record { agent = l.agent; number = l.finished + 1 })) l.implied
