use Rattle.fleet_adg.proofs.Words.{refl, ◌∙◌, kind_of}
use Rattle.fleet_adg.proofs.SweepSteps.{sweep_begins, bytes_begin}
use Rattle.fleet_adg.proofs.sweep.actions_of.Goals as goal

pub sweep-requires-clause-on_map : goal.sweep-requires-clause-on_map
sweep-requires-clause-on_map c =
    rw (c.grid-grid.ensures, c.plan-plan.ensures.value) c.cells_are_on_map.ensures

pub sweep-requires-clause-leavings : goal.sweep-requires-clause-leavings
sweep-requires-clause-leavings c =
    let none = c.none-leavings in
    sweep_begins c.grid-grid.result.now c.plan-plan.result.now (kind_of none.result) none.result refl none.ensures.rows

pub sweep-requires-clause-actions : goal.sweep-requires-clause-actions
sweep-requires-clause-actions c =
    c.deref_mut.ensures.value ∙ (c.in_ok-actions.ensures ∙ bytes_begin c.plan-plan.result.now (kind_of c.none-leavings.result) c.args.version)
