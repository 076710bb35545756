use Rattle.fleet_grid.specs.Ground.{IsGround}
use Rattle.fleet_grid.proofs.StoredLaws.{no_cell, is_ground_of}
use Rattle.fleet_grid.proofs.grid.Grid.neighbour.Goals as goal

pub returns-in_err-next-clause-none : goal.returns-in_err-next-clause-none
returns-in_err-next-clause-none c =
    let is_ground : IsGround c.args.self.now = rw (← c.self.view_is) (is_ground_of _ _ _ _ c.self.invariant.2 c.self.invariant.0 c.self.invariant.1) in
    rw c.from_residual.ensures (no_cell c.args.self.now _ is_ground c.in_err-next.ensures.none)
