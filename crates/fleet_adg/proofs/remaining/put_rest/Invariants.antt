use Rattle.fleet_adg.proofs.Words.{◌≡◌, ◌≤◌, map, take, drop, actions_of, count_at, rest_action}
use Rattle.fleet_adg.proofs.remaining.put_rest.Given as goal

abbrev pub invariant-loop-finished : goal.invariant-loop-finished
invariant-loop-finished g l = record {
  from : count_at l.standings l.fn.i ≤ l.finished;
  made : l.actions ≡ map (rest_action l.standings) (drop (count_at l.standings l.fn.i) (take l.finished (actions_of (g.P.ProgramView.program l.program) l.fn.i)));
}
