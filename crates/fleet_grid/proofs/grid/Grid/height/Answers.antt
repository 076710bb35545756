use Rattle.fleet_grid.proofs.StoredLaws.{is_ground_of}
use Rattle.fleet_grid.proofs.grid.Grid.height.Goals as goal

pub returns-clause-sizes : goal.returns-clause-sizes
returns-clause-sizes c = rw (← c.self.view_is) (is_ground_of _ _ _ _ c.self.invariant.2 c.self.invariant.0 c.self.invariant.1)
