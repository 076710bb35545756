use Rattle.std.proofs.Common.{◌+◌}
use Rattle.fleet_plan.proofs.SweepLaws.{first_meets}
use Rattle.fleet_plan.proofs.sweep.Sweep.step.Goals as goal

pub returns-in-Some-2 : goal.returns-in-Some-2
returns-in-Some-2 c =
    first_meets c.cells_have_places_of_their_own.ensures c.args.grid.now c.args.plan.now c.requires.on_map (c.args.time + 1) c.look_ahead.new.self.next c.in_default.ensures.found
    c.in-Some-2.i c.in-Some-2.j (rw c.in-Some-2.is at c.in_ok-i.ensures)
