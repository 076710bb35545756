use Rattle.std.proofs.Common.{◌≡◌, ◌≤◌, length, take}
use Rattle.fleet_search.proofs.OrderLaws.{ArePlaced}
use Rattle.fleet_search.proofs.orders.by_number.Given as goal

abbrev pub invariant-loop-path : goal.invariant-loop-path
invariant-loop-path l = record {
  agents : length l.plan.items ≡ length l.problem.instance.now;
  few : length l.left.items ≤ length l.order;
  front : l.left.items ≡ take (length l.left.items) l.fn.paths.items;
  done : ArePlaced l.order l.fn.paths.items l.plan.items (length l.left.items);
}

abbrev pub decreases-loop-path : goal.decreases-loop-path
decreases-loop-path l = length l.left.items
