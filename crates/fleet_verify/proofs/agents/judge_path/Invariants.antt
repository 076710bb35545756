use Rattle.fleet_verify.proofs.Words.{is_passable, AwaitsRight, IsPosition, AnswersFirst}
use Rattle.fleet_verify.proofs.agents.judge_path.Given as goal

abbrev pub invariant-loop-finished : goal.invariant-loop-finished
invariant-loop-finished g l = record {
  position : IsPosition (is_passable l.grid) (g.P.ProgramView.program l.program) l.agent l.finished l.position;
  out_of_range : AnswersFirst l.finished (AwaitsRight (g.P.ProgramView.program l.program) l.agent) l.out_of_range;
}
