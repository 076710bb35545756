use Rattle.fleet_search.proofs.Words.{◌<◌, max, is_passable, IsOrderAfter, AreTables, IsTurn}
use Rattle.fleet_search.proofs.orders.plan_from.Given as goal

abbrev pub invariant-loop-failed : goal.invariant-loop-failed
invariant-loop-failed l = record {
  more : l.failed < max l.tries 1;
  turn : IsTurn l.problem l.turn;
  after : IsOrderAfter (is_passable l.problem.grid.now) l.problem.instance.now l.problem.horizon l.failed l.turn.order.items;
  tables : AreTables l.problem l.tables;
}
