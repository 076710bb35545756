use Rattle.fleet_verify.proofs.Words.{◌≡◌, ◌+◌, place_of, path}
use Rattle.fleet_verify.proofs.Judged.{AreJudged}
use Rattle.fleet_verify.proofs.order.check_path.Given as goal

abbrev pub invariant-loop-finished : goal.invariant-loop-finished
invariant-loop-finished g l = record {
  here : place_of l.cell ≡ path (g.P.ProgramView.program l.program) l.agent l.finished;
  judged : AreJudged (g.P.ProgramView.program l.program) l.agent (l.finished + 1);
}
