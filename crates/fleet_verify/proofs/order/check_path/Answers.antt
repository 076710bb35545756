use Rattle.fleet_verify.proofs.Words.{◌≡◌, ◌+◌, arith, err_from_is_err_and, place_of, path, is_passable, nat_eq, number_of, get}
use Rattle.fleet_verify.proofs.UnderWay.{next_cell, next_there}
use Rattle.fleet_verify.proofs.Judged.{broken_fault, broken_told, unbroken, starts_on, judged_begins, judged_first, judged_more, judged_path}
use Rattle.fleet_verify.proofs.order.check_path.Goals as goal

pub returns-in_err-check_cell-clause-err : goal.returns-in_err-check_cell-clause-err
returns-in_err-check_cell-clause-err g c =
    let e = err_from_is_err_and c.from_residual.result c.from_residual.ensures.1 in
    rw (e.1, e.2) (
      (broken_fault (is_passable c.args.grid.now) c.args.instance.now (g.P.ProgramView.program c.args.program.now) c.requires.violations.placed (λ d. get nat_eq c.args.violations.now (number_of d)) c.requires.violations.violations c.args.agent 0 c.start-cell.result c.in_err-check_cell.ensures.cell c.requires.before c.requires.violations.all
          c.requires.agent (omega arith) (starts_on (g.P.ProgramView.program c.args.program.now) c.args.agent c.start-cell.result c.start-cell.ensures) (judged_begins (g.P.ProgramView.program c.args.program.now) c.args.agent c.requires.sooner)
          c.in_err-check_cell.field-0.0 c.in_err-check_cell.ensures.err),
      broken_told c.start-cell.result (get nat_eq c.args.violations.now (number_of c.start-cell.result)) c.in_err-check_cell.field-0.0 c.in_err-check_cell.ensures.err,
    )

pub unwrap-cell-requires : goal.unwrap-cell-requires
unwrap-cell-requires g c =
    next_there (is_passable c.args.grid.now) (g.P.ProgramView.program c.args.program.now) c.args.agent c.loop-finished.finished c.loop-finished.cell c.step.result c.cell_after.result
    c.requires.before.before.steps c.requires.agent (omega (arith, c.moves-finished-end.ensures)) c.loop-finished.invariant.here c.step.ensures c.cell_after.ensures.none

pub returns-in_err-check_cell-2-clause-err : goal.returns-in_err-check_cell-2-clause-err
returns-in_err-check_cell-2-clause-err g c =
    let e = err_from_is_err_and c.from_residual-in_err-check_cell-2.result c.from_residual-in_err-check_cell-2.ensures.1 in
    rw (e.1, e.2) (
      (broken_fault (is_passable c.args.grid.now) c.args.instance.now (g.P.ProgramView.program c.args.program.now) c.requires.violations.placed (λ d. get nat_eq c.args.violations.now (number_of d)) c.requires.violations.violations c.args.agent (c.loop-finished.finished + 1) c.unwrap-cell.result c.in_err-check_cell-2.ensures.cell c.requires.before c.requires.violations.all
          c.requires.agent (omega (arith, c.moves-finished-end.ensures)) (next_cell (is_passable c.args.grid.now) (g.P.ProgramView.program c.args.program.now) c.args.agent c.loop-finished.finished c.loop-finished.cell c.unwrap-cell.result c.step.result c.cell_after.result
          c.loop-finished.invariant.here c.step.ensures c.unwrap-cell.ensures c.cell_after.ensures.some) c.loop-finished.invariant.judged
          c.in_err-check_cell-2.field-0.0 c.in_err-check_cell-2.ensures.err),
      broken_told c.unwrap-cell.result (get nat_eq c.args.violations.now (number_of c.unwrap-cell.result)) c.in_err-check_cell-2.field-0.0 c.in_err-check_cell-2.ensures.err,
    )

pub loop-finished-init : goal.loop-finished-init
loop-finished-init g c =
    let p = g.P.ProgramView.program c.args.program.now in
    record {
      here = starts_on p c.args.agent c.start-cell.result c.start-cell.ensures;
      judged = judged_first p c.args.agent c.start-cell.result (judged_begins (g.P.ProgramView.program c.args.program.now) c.args.agent c.requires.sooner) c.start-cell.ensures (unbroken p c.requires.violations.placed (λ d. get nat_eq c.args.violations.now (number_of d)) c.requires.violations.all c.requires.violations.violations c.start-cell.result c.in_ok-check_cell.ensures.cell c.in_ok-check_cell.ensures.ok);
    }

pub loop-finished-preserved : goal.loop-finished-preserved
loop-finished-preserved g c =
    let p = g.P.ProgramView.program c.args.program.now in
    let here : place_of c.unwrap-cell.result ≡ path p c.args.agent (c.loop-finished.finished + 1) = (next_cell (is_passable c.args.grid.now) (g.P.ProgramView.program c.args.program.now) c.args.agent c.loop-finished.finished c.loop-finished.cell c.unwrap-cell.result c.step.result c.cell_after.result
    c.loop-finished.invariant.here c.step.ensures c.unwrap-cell.ensures c.cell_after.ensures.some) in
    record {
      here = here;
      judged = judged_more p c.args.agent (c.loop-finished.finished + 1) c.unwrap-cell.result c.loop-finished.invariant.judged here (unbroken p c.requires.violations.placed (λ d. get nat_eq c.args.violations.now (number_of d)) c.requires.violations.all c.requires.violations.violations c.unwrap-cell.result c.in_ok-check_cell-2.ensures.cell c.in_ok-check_cell-2.ensures.ok);
    }

pub returns-clause-ok : goal.returns-clause-ok
returns-clause-ok g c =
    judged_path (g.P.ProgramView.program c.args.program.now) c.args.agent (c.loop-finished.finished + 1) c.loop-finished.invariant.judged (omega (arith, c.moves-finished-end.ensures))
