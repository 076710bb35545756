use Rattle.fleet_dispatch.proofs.Cited.{[], first_course, left_in, IsLogged}
use Rattle.fleet_dispatch.proofs.Said.{from_there, led_stops, after_err}
use Rattle.fleet_dispatch.proofs.stream_floor.dispatch_logged.Goals as goal

pub returns-in_err-session-clause-outcome : goal.returns-in_err-session-clause-outcome
returns-in_err-session-clause-outcome g c =
    let log = g.L.ReportLog.state c.args.log.now in
    let talks = IsLogged g.R.ReportsTo.talks c.args.input.now c.args.orders.now c.args.input.now c.args.orders.now log log c.args.outset.pace.form in
    rw (← c.program-program.ensures.program) (after_err _ _ talks _ _ c.from_residual.ensures.1
    (led_stops _ c.args.outset.pace c.args.outset.past.now talks c.in_err-session.field-0.0 c.in_err-session.ensures ([], g.met.R.ReportsTo.silent c.args.outset.pace.form c.args.input.now [] c.args.orders.now log)))

pub returns-in_err-session-clause-stays : goal.returns-in_err-session-clause-stays
returns-in_err-session-clause-stays g c = g.met.L.ReportLog.same c.args.log.now

pub returns-clause-outcome : goal.returns-clause-outcome
returns-clause-outcome g c =
    let p = g.P.ProgramView.program c.program-program.result.now in
    rw (← c.program-program.ensures.program)
    (from_there (first_course p c.args.outset.pace) c.args.outset.past.now _ (left_in c.in_ok-session.session) (left_in c.dispatch_led.new.session) c.dispatch_led.result c.in_ok-session.ensures.replayed c.dispatch_led.ensures.outcome)
