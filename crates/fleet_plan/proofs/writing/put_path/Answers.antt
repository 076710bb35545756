use Rattle.fleet_plan.proofs.Words.{◌++◌, [], ◌∷◌, ◌∙◌, sym, ap, take_all, each_spaced, spaced_more, line_written, Cell, cell_text, path_text}
use Rattle.fleet_plan.proofs.writing.put_path.Goals as goal

pub returns : goal.returns
returns c =
    let before = c.args.text.now.items in
    let others = c.in-Some.others.now in
    let all = take_all c.loop-cell.cell-index others c.loop-cell-test.false in
    let path_is = sym c.in-Some.ensures.cases.0 ∙ c.cells.ensures.value in
    line_written cell_text before c.loop-cell.text.items _ others c.in-Some.last.now (c.loop-cell.invariant ∙ ap (λ cells. before ++ each_spaced cell_text cells) all) c.in_ok-put_cell-2.ensures
    ∙ ap (λ path. before ++ path_text path ++ 10 ∷ []) path_is

pub loop-cell-preserved : goal.loop-cell-preserved
loop-cell-preserved c =
    let nowhere : Cell = record { x = 0; y = 0 } in
    spaced_more cell_text c.args.text.now.items c.loop-cell.text.items _ c.in-Some.others.now c.loop-cell.cell-index nowhere c.loop-cell-test.true c.loop-cell.invariant c.in_ok-put_cell.ensures
