use Rattle.std.proofs.Common.{refl}
use Rattle.fleet_search.proofs.TurnLaws.{turn_next}
use Rattle.fleet_search.proofs.orders.advance.Goals as goal

pub returns : goal.returns
returns c = record {
  turn = turn_next c.args.problem.now c.args.turn.now.order.items c.raise.new.order.items c.args.kept.items c.args.place c.requires.turn.each_once c.requires.place c.in_ok-raise.ensures c.requires.made;
  next = c.in_ok-raise.ensures;
  kept = refl;
}
