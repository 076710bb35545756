use Rattle.fleet_search.proofs.OneByOne.{one_by_one}
use Rattle.fleet_search.proofs.laws.paths_that_fit_are_conflict_free.Goals as goal

pub returns : goal.returns
returns c = one_by_one
