use Rattle.std.proofs.Common.{◌∙◌, refl, sym}
use Rattle.fleet_model.specs.declared.deps.Deps.TheVariants.{Last}
use Rattle.fleet_adg.specs.Compiled.{compiled_staying}
use Rattle.fleet_code.specs.Spelling.{Spells}
use Rattle.fleet_cli.proofs.steps.MeasureByMeasure.measure.Goals as goal

pub returns-in_ok-accepted-in-Ok : goal.returns-in_ok-accepted-in-Ok
returns-in_ok-accepted-in-Ok c =
    let made = c.in-Ok.ensures in
    let spells : Spells c.deref.result.now (compiled_staying c.args.checked.now.plan Last 0) = rw c.deref.ensures.value made.spelled.spelled.spelled in
    rw c.in-Chain.is (rw (sym (made.plain refl) ∙ made.due, c.in_ok-accepted-in-Ok.ensures.only _ spells, c.chain.ensures.chain) c.in_ok-accepted-in-Ok.ensures.accepted.accepted_for.longest)
