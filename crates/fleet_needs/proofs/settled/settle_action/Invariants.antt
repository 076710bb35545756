use Rattle.fleet_needs.proofs.Words.{◌+◌, first_await, AreSettledBy}
use Rattle.fleet_needs.proofs.settled.settle_action.Given as goal

abbrev pub invariant-loop-k : goal.invariant-loop-k
invariant-loop-k g l = AreSettledBy (g.P.ProgramView.program l.program) l.asked (first_await (g.P.ProgramView.program l.program) l.action + l.k) l.implied
