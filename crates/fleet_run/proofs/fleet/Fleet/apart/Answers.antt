use Rattle.fleet_grid.specs.Ground.{is_passable}
use Rattle.fleet_run.proofs.fleet.Fleet.apart.Goals as goal

pub returns : goal.returns
returns g c =
    let running = c.self.invariant in
    let parts = c.self.inside.accepted in
    let p = g.P.ProgramView.program parts.program in
    let accepted = running.accepted_for.accepted in
    rw (← c.self.view_is) (c.ready_moves_are_apart.ensures.apart (is_passable parts.grid) parts.instance p accepted c.self.inside.machine.configuration running.reached)
