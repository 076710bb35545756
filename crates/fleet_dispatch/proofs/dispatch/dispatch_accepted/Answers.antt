use Rattle.fleet_dispatch.proofs.Cited.{List, ap, subst, is_passable, Program, Words, AreTaken, first_course, left_in, DispatchesAfter, none_done, LeadsWell}
use Rattle.fleet_dispatch.proofs.Said.{dispatch_gives, from_there, led_stops, after_err}
use Rattle.fleet_dispatch.proofs.dispatch.dispatch_accepted.Goals as goal

pub returns-in_err-session-clause-outcome : goal.returns-in_err-session-clause-outcome
returns-in_err-session-clause-outcome g c =
    let p = g.P.ProgramView.program c.program-program.result.now in
    let talks = g.F.Floor.talks c.args.floor.now c.args.floor.now in
    let e = c.in_err-session.field-0.0 in
    subst (λ (p : Program). DispatchesAfter (first_course p c.args.pace) c.args.log.now (g.F.Floor.talks c.args.floor.now c.args.floor.now) c.from_residual.result)
    (ap g.P.ProgramView.program c.program-program.ensures.program)
    (after_err (first_course p c.args.pace) c.args.log.now talks c.from_residual.result e c.from_residual.ensures.1
    (led_stops p c.args.pace c.args.log.now talks e c.in_err-session.ensures (g.met.F.Floor.silent c.args.floor.now)))

pub returns-in_err-session-clause-stays : goal.returns-in_err-session-clause-stays
returns-in_err-session-clause-stays g c = g.met.F.Floor.kept _ _ _ (g.met.F.Floor.silent c.args.floor.now)

pub returns-clause-outcome : goal.returns-clause-outcome
returns-clause-outcome g c =
    let p = g.P.ProgramView.program c.program-program.result.now in
    let s = c.in_ok-session.session in
    subst (λ (p : Program). DispatchesAfter (first_course p c.args.pace) c.args.log.now (g.F.Floor.talks c.args.floor.now c.run_session.new.floor) c.run_session.result)
    (ap g.P.ProgramView.program c.program-program.ensures.program)
    (from_there (first_course p c.args.pace) c.args.log.now _ (left_in s) (left_in c.run_session.new.session) c.run_session.result c.in_ok-session.ensures.replayed c.run_session.ensures)

pub returns-clause-stays : goal.returns-clause-stays
returns-clause-stays g c =
    dispatch_gives (g.F.Floor.talks c.args.floor.now c.run_session.new.floor) _ (g.met.F.Floor.kept c.args.floor.now c.run_session.new.floor) _ _ c.run_session.result c.run_session.ensures

pub returns-in_err-session-clause-led : goal.returns-in_err-session-clause-led
returns-in_err-session-clause-led g c =
    subst (λ (p : Program). (reports : List Words) → AreTaken p c.args.pace.ahead (none_done p) reports → LeadsWell (is_passable c.args.accepted.grid) p c.args.pace.ahead reports)
    (ap g.P.ProgramView.program c.program-program.ensures.program)
    (c.dispatches_lead_safely.ensures.well (is_passable c.args.accepted.grid) c.args.accepted.instance (g.P.ProgramView.program c.program-program.result.now) c.program-program.ensures.accepted.accepted c.args.pace.ahead)

pub returns-clause-led : goal.returns-clause-led
returns-clause-led g c =
    subst (λ (p : Program). (reports : List Words) → AreTaken p c.args.pace.ahead (none_done p) reports → LeadsWell (is_passable c.args.accepted.grid) p c.args.pace.ahead reports)
    (ap g.P.ProgramView.program c.program-program.ensures.program)
    (c.dispatches_lead_safely.ensures.well (is_passable c.args.accepted.grid) c.args.accepted.instance (g.P.ProgramView.program c.program-program.result.now) c.program-program.ensures.accepted.accepted c.args.pace.ahead)
