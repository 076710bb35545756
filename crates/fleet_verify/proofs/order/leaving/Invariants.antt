use Rattle.fleet_verify.proofs.Words.{◌≤◌, ◌<◌, next_move}
use Rattle.fleet_verify.proofs.order.leaving.Given as goal

abbrev pub invariant-loop-finished : goal.invariant-loop-finished
invariant-loop-finished g l = record {
  from : l.position ≤ l.finished;
  staying : l.finished < next_move (g.P.ProgramView.program l.program) l.agent l.position;
}
