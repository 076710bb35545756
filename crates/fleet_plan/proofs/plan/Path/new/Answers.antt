use Rattle.fleet_plan.proofs.Words.{◌<◌, ◌≤◌, subst, length, get_or, All-more, IsCell, origin}
use Rattle.fleet_plan.proofs.PlanCode.{is_path}
use Rattle.fleet_plan.proofs.plan.Path.new.Goals as goal

pub loop-cell-preserved : goal.loop-cell-preserved
loop-cell-preserved c =
    let xs = c.args.cells.items in
    let i = c.loop-cell.cell-index in
    let l : i < length xs = subst (λ ys. i < length ys) c.deref-cell-items.ensures.value c.loop-cell-test.true in
    All-more IsCell xs i origin l c.loop-cell.invariant (subst (λ ys. IsCell (get_or ys i origin)) c.deref-cell-items.ensures.value c.numbers_fit.ensures)

pub invariant_of-result : goal.invariant_of-result
invariant_of-result c = is_path c.args.cells.items c.loop-cell.cell-index c.requires.some c.requires.few (subst (λ ys. length ys ≤ c.loop-cell.cell-index) c.deref-cell-items.ensures.value c.loop-cell-test.false) c.loop-cell.invariant
