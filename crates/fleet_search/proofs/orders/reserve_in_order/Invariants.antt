use Rattle.fleet_search.proofs.Words.{IsMadeBefore, AreTables}
use Rattle.fleet_search.proofs.orders.reserve_in_order.Given as goal

abbrev pub invariant-loop-place : goal.invariant-loop-place
invariant-loop-place l = IsMadeBefore l.problem l.order l.place l.reserved × AreTables l.problem l.tables
