use Rattle.fleet_search.proofs.Words.{◌<◌, max, IfNone, AreTables, IsTurn, IsBestSoFar}
use Rattle.fleet_search.proofs.best.best_from.Given as goal

abbrev pub invariant-loop-tried : goal.invariant-loop-tried
invariant-loop-tried g l = record {
  turn : IsTurn l.problem l.turn;
  tables : AreTables l.problem l.tables;
  so_far : IsBestSoFar l.problem (g.M.Measure.is_measure l.measure) l.turn.order.items l.tried l.best;
  more : IfNone l.best (l.tried < max l.tries 1);
}
