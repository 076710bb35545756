use Rattle.fleet_verify.proofs.Looking.{IsRaisedBy}
use Rattle.fleet_verify.proofs.needed.raise.Given as goal

abbrev pub invariant-loop-k : goal.invariant-loop-k
invariant-loop-k g l = IsRaisedBy (g.P.ProgramView.program l.program) l.agent l.number l.initial.row l.row l.k
