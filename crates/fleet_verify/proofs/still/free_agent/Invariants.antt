use Rattle.fleet_verify.proofs.Words.{ℕ, ◌<◌, Option, Await, IsStopped}
use Rattle.fleet_verify.proofs.still.free_agent.Given as goal

abbrev pub invariant-loop-agent : goal.invariant-loop-agent
invariant-loop-agent g l = (i : ℕ) → i < l.agent → (w : Option Await) × IsStopped (g.P.ProgramView.program l.program) l.ahead.rows.items i w
