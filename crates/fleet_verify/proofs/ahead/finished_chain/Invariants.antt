use Rattle.fleet_verify.specs.Ahead.{AreDone}
use Rattle.fleet_verify.proofs.ahead.finished_chain.Given as goal

abbrev pub invariant-loop-agent : goal.invariant-loop-agent
invariant-loop-agent g l = AreDone l.instance (g.P.ProgramView.program l.program) l.ahead.rows.items l.agent l.chain
