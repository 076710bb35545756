use Rattle.fleet_search.proofs.Explored.{no-places}
use Rattle.fleet_search.proofs.frontier.Frontier.new.Goals as goal

pub invariant_of-result : goal.invariant_of-result
invariant_of-result c = no-places c.new.result.items c.new-3.result.items c.new-3.ensures.items
