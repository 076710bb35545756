use Rattle.fleet_verify.proofs.Words.{err_from_is_err_and, is_passable}
use Rattle.fleet_verify.proofs.Stays.{accepted, whole_run}
use Rattle.fleet_verify.proofs.verifier.judge_run.Goals as goal

pub check_order-requires-clause-before : goal.check_order-requires-clause-before
check_order-requires-clause-before g c =
    let p = g.P.ProgramView.program c.args.program.now in
    (whole_run p (is_passable c.args.grid.now) c.args.instance.now c.run_unheld.new.run c.requires.starts c.in_default.ensures (c.has_arrived.ensures.0 c.if-has_arrived.true)).ranges

pub check_order-requires-clause-added : goal.check_order-requires-clause-added
check_order-requires-clause-added g c =
    let p = g.P.ProgramView.program c.args.program.now in
    (whole_run p (is_passable c.args.grid.now) c.args.instance.now c.run_unheld.new.run c.requires.starts c.in_default.ensures (c.has_arrived.ensures.0 c.if-has_arrived.true)).added

pub check_order-requires-clause-finish : goal.check_order-requires-clause-finish
check_order-requires-clause-finish g c =
    let p = g.P.ProgramView.program c.args.program.now in
    (whole_run p (is_passable c.args.grid.now) c.args.instance.now c.run_unheld.new.run c.requires.starts c.in_default.ensures (c.has_arrived.ensures.0 c.if-has_arrived.true)).finish

pub returns-in_ok-check_order-clause-ok : goal.returns-in_ok-check_order-clause-ok
returns-in_ok-check_order-clause-ok g c =
    let p = g.P.ProgramView.program c.args.program.now in
    let passable = is_passable c.args.grid.now in
    let whole = whole_run p passable c.args.instance.now c.run_unheld.new.run c.requires.starts c.in_default.ensures (c.has_arrived.ensures.0 c.if-has_arrived.true) in
    record { accepted = accepted passable c.args.instance.now p whole.added.placed whole.ranges whole.added.all c.in_ok-check_order.ensures.ok; longest = whole.longest }

pub returns-in_err-check_order-clause-err : goal.returns-in_err-check_order-clause-err
returns-in_err-check_order-clause-err g c =
    let e = err_from_is_err_and c.from_residual.result c.from_residual.ensures.1 in
    rw (e.1, e.2) c.in_err-check_order.ensures.err
