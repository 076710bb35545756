use Rattle.fleet_dispatch.proofs.Cited.{◌≡◌, ◌+◌, [], refl, sym, ◌∙◌, subst, Result, Err, Ok, IsErrAnd, Talk, Course, Left, Dispatches, DispatchFault, DispatchReport}
use Rattle.fleet_dispatch.proofs.Reports.{more}
use Rattle.fleet_dispatch.specs.Session.{course_in as course_of}
use Rattle.fleet_dispatch.proofs.Outcomes.{Joins, at_start, write_stops, now_told, concludes, limit_stops, line_stops, one_line_on}
use Rattle.fleet_dispatch.proofs.run.run_session.Given
use Rattle.fleet_dispatch.proofs.run.run_session.Goals as goal

-- one stretch of talk after another
joins : (g : Given.Over) (a b d : g.row.F.Denot) → Joins (g.F.Floor.talks a b) (g.F.Floor.talks b d) (g.F.Floor.talks a d)
joins g a b d = record { join = g.met.F.Floor.joined a b d }

-- an error that is handed on
err_stops : (d : Course) (talks : Talk → Type 0) (left : Left) (r : Result DispatchReport DispatchFault) (e : DispatchFault) → IsErrAnd r (λ x. x ≡ e)
    → Dispatches d talks left (Err e) → Dispatches d talks left r
err_stops d talks left (Ok x) e h s = absurd h
err_stops d talks left (Err x) e h s = subst (λ y. Dispatches d talks left (Err y)) (sym h) s

pub lines-init : goal.lines-init
lines-init g c = record {
  ready = c.requires.ready;
  works = c.requires.floor;
  under_way = ([], at_start (g.P.ProgramView.program c.args.program.now) c.args.pace (g.F.Floor.talks c.args.floor.now c.args.floor.now) c.args.session.now (g.met.F.Floor.silent c.args.floor.now) c.requires.fresh);
}

pub returns-then-is_err : goal.returns-then-is_err
returns-then-is_err g c =
    let way = c.lines.invariant.under_way in
    write_stops _ _ _ _ (joins g c.args.floor.now c.lines.floor c.tell_orders.new.floor) c.lines.session c.tell_orders.new.session c.lines.lines way.0 way.1
    _ c.tell_orders.result c.tell_orders.ensures (sym c.is_err.ensures.value ∙ c.if-is_err.true)

pub returns-then-is_finished : goal.returns-then-is_finished
returns-then-is_finished g c =
    let p = g.P.ProgramView.program c.args.program.now in
    let d = course_of p c.args.pace c.args.session.now in
    let way = c.lines.invariant.under_way in
    let told = now_told d _ _ _ (joins g c.args.floor.now c.lines.floor c.tell_orders.new.floor) c.lines.session c.tell_orders.new.session c.lines.lines way.0 way.1
    _ c.tell_orders.result c.tell_orders.ensures (sym c.is_err.ensures.value ∙ c.if-is_err.false) in
    concludes d _ _ _ (joins g c.args.floor.now c.tell_orders.new.floor c.conclude.new.floor) c.tell_orders.new.session c.tell_orders.new.session c.lines.lines way.0 told.0
    c.agents.result c.total_moves.result c.tell_orders.new.session.taken c.conclude.result (sym c.is_finished.ensures ∙ c.if-is_finished.true) c.agents.ensures.count c.total_moves.ensures refl c.conclude.ensures

pub returns-then-lines : goal.returns-then-lines
returns-then-lines g c =
    let d = course_of (g.P.ProgramView.program c.args.program.now) c.args.pace c.args.session.now in
    let way = c.lines.invariant.under_way in
    let told = now_told d _ _ _ (joins g c.args.floor.now c.lines.floor c.tell_orders.new.floor) c.lines.session c.tell_orders.new.session c.lines.lines way.0 way.1
    _ c.tell_orders.result c.tell_orders.ensures (sym c.is_err.ensures.value ∙ c.if-is_err.false) in
    limit_stops d _ c.tell_orders.new.session c.lines.lines way.0 told.0 (sym c.is_finished.ensures ∙ c.if-is_finished.false) c.then-lines.either

pub returns-in_err-take_line : goal.returns-in_err-take_line
returns-in_err-take_line g c =
    let p = g.P.ProgramView.program c.args.program.now in
    let d = course_of p c.args.pace c.args.session.now in
    let way = c.lines.invariant.under_way in
    let told = now_told d _ _ _ (joins g c.args.floor.now c.lines.floor c.tell_orders.new.floor) c.lines.session c.tell_orders.new.session c.lines.lines way.0 way.1
    _ c.tell_orders.result c.tell_orders.ensures (sym c.is_err.ensures.value ∙ c.if-is_err.false) in
    let e = c.in_err-take_line.field-0.0 in
    err_stops d _ _ c.from_residual.result e c.from_residual.ensures.1
    (line_stops d _ _ _ (joins g c.args.floor.now c.tell_orders.new.floor c.take_line.new.floor) c.tell_orders.new.session c.take_line.new.session c.lines.lines way.0 told.0
    (sym c.is_finished.ensures ∙ c.if-is_finished.false) (Unit {0}) c.args.pace (g.F.Floor.works c.take_line.new.floor) (c.lines.lines + 1) e refl refl c.in_err-take_line.ensures)

pub lines-preserved : goal.lines-preserved
lines-preserved g c =
    let p = g.P.ProgramView.program c.args.program.now in
    let d = course_of p c.args.pace c.args.session.now in
    let way = c.lines.invariant.under_way in
    let told = now_told d _ _ _ (joins g c.args.floor.now c.lines.floor c.tell_orders.new.floor) c.lines.session c.tell_orders.new.session c.lines.lines way.0 way.1
    _ c.tell_orders.result c.tell_orders.ensures (sym c.is_err.ensures.value ∙ c.if-is_err.false) in
    let taken = c.in_ok-take_line.ensures in
    record {
      ready = taken.1.ready;
      works = taken.1.still;
      under_way = (
        more d way.0 taken.0,
        one_line_on d _ _ _ (joins g c.args.floor.now c.tell_orders.new.floor c.take_line.new.floor) c.tell_orders.new.session c.take_line.new.session c.lines.lines way.0 told.0
            (sym c.is_finished.ensures ∙ c.if-is_finished.false) c.args.pace _ taken.0 refl taken.1,
      );
    }
