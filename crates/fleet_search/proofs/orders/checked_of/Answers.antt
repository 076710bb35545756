use Rattle.fleet_search.proofs.Words.{is_passable, IsMadeInOrder}
use Rattle.fleet_search.proofs.OrderConflicts.{in_order_free}
use Rattle.fleet_search.proofs.orders.checked_of.Goals as goal

pub checked-requires : goal.checked-requires
checked-requires c =
    let passable = is_passable c.args.problem.now.grid.now in
    let tasks = c.args.problem.now.instance.now in
    let horizon = c.args.problem.now.horizon in
    let order = c.args.order.now in
    let plan = c.in_ok-plan.plan in
    let made : IsMadeInOrder passable tasks horizon order plan = rw c.in_ok-plan.ensures.same c.requires.paths in
    in_order_free passable tasks horizon order plan c.requires.order c.in_ok-plan.ensures.agents made
