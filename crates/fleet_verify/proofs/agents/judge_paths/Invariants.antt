use Rattle.fleet_verify.proofs.Words.{ℕ, ◌<◌, is_passable, EndsRight, StandsRight, AwaitsRight, AnswersFirstAction}
use Rattle.fleet_verify.proofs.agents.judge_paths.Given as goal

abbrev pub invariant-loop-agent : goal.invariant-loop-agent
invariant-loop-agent g l = record {
  ends : (i : ℕ) → i < l.agent → EndsRight l.instance (g.P.ProgramView.program l.program) i;
  off_ground : AnswersFirstAction (g.P.ProgramView.program l.program) (StandsRight (is_passable l.grid) (g.P.ProgramView.program l.program)) l.agent l.off_ground;
  out_of_range : AnswersFirstAction (g.P.ProgramView.program l.program) (AwaitsRight (g.P.ProgramView.program l.program)) l.agent l.out_of_range;
}
