use Rattle.fleet_plan.proofs.FaultLaws.{conflict_free}
use Rattle.fleet_plan.proofs.Following.{checked_on_map}
use Rattle.fleet_plan.proofs.Words.{is_passable}
use Rattle.fleet_plan.proofs.checking.is_apart.Goals as goal

pub nobody_follows-requires-clause-on_map : goal.nobody_follows-requires-clause-on_map
nobody_follows-requires-clause-on_map c =
    let given = c.args.checked.now in
    rw (c.plan-plan.ensures.value, c.grid-grid.ensures) (checked_on_map given.grid (rw c.grid-grid.ensures at c.width-width.ensures.sizes) given.instance given.plan c.plan-plan.ensures.checked.free)

pub nobody_follows-requires-clause-free : goal.nobody_follows-requires-clause-free
nobody_follows-requires-clause-free c =
    let given = c.args.checked.now in
    rw c.plan-plan.ensures.value (conflict_free (is_passable given.grid) given.instance given.plan c.plan-plan.ensures.checked.free)
