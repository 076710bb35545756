use Rattle.std.proofs.Common.{sym}
use Rattle.fleet_search.proofs.Spread.{ready_set}
use Rattle.fleet_search.proofs.distances.Distances.set_label.Goals as goal

pub invariant_of-self : goal.invariant_of-self
invariant_of-self c = ready_set _ _ _ c.args.place c.args.distance (rw (sym c.self.view_is) at c.requires) c.self.invariant
