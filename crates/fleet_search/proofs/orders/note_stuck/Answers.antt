use Rattle.fleet_search.proofs.Words.{length, arith, is_passable}
use Rattle.fleet_search.proofs.OrderLaws.{stuck_within}
use Rattle.fleet_search.proofs.orders.note_stuck.Goals as goal

pub advance-requires-clause-place : goal.advance-requires-clause-place
advance-requires-clause-place c =
    let problem = c.args.problem.now in
    let inside = stuck_within (is_passable problem.grid.now) problem.instance.now problem.horizon c.args.turn.now.order.items (length c.args.paths.items) c.requires.paths.0 in
    omega (arith, c.len-place.ensures, c.args.paths.ok.0, inside)
