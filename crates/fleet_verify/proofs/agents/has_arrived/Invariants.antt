use Rattle.fleet_verify.proofs.Words.{ℕ, ◌<◌, EndsRight}
use Rattle.fleet_verify.proofs.agents.has_arrived.Given as goal

abbrev pub invariant-loop-agent : goal.invariant-loop-agent
invariant-loop-agent g l = (i : ℕ) → i < l.agent → EndsRight l.instance (g.P.ProgramView.program l.program) i
