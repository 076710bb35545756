use Rattle.fleet_verify.proofs.Words.{◌≤◌, ◌<◌, next_move}
use Rattle.fleet_verify.proofs.order.is_seen_leaving.Given as goal

abbrev pub invariant-loop-finished : goal.invariant-loop-finished
invariant-loop-finished g l = record {
  from : l.visit.position ≤ l.finished;
  staying : l.finished < next_move (g.P.ProgramView.program l.program) l.visit.agent l.visit.position;
}
