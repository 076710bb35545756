use Rattle.fleet_search.proofs.InTurnLaws.{in_turn_free}
use Rattle.fleet_search.proofs.laws.prioritised_plans_are_conflict_free.Goals as goal

pub returns : goal.returns
returns c = in_turn_free
