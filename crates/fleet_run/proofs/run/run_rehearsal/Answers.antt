use Rattle.fleet_run.proofs.Words.{◌≡◌, arith, sym, subst, ◌∙◌, drop, err_from_is_err_and, Takes, rehearsal_closing, run}
use Rattle.fleet_run.proofs.Rehearsed.{over_at_end, closing_is, rehearsed, rehearses_so, stops_in_closing, rest_of_row}
use Rattle.fleet_run.proofs.UnderWay.{took_all}
use Rattle.fleet_run.proofs.run.run_rehearsal.Goals as goal

pub returns-then-is_err : goal.returns-then-is_err
returns-then-is_err g c =
    let p = g.P.ProgramView.program c.args.program.now in
    let holds = (g.S.HoldSource.state c.args.source.now).ticks in
    let ran = c.in_ok-ran.ensures.lines.1 in
    let t = c.in_ok-ran.ran.ticks in
    let over = over_at_end p (run p holds t) c.in_ok-ran.ran.end ran.end in
    let closing : drop c.write_rehearsal_closing-at.result c.write_rehearsal_closing-at.new.row ≡ rehearsal_closing p holds t =
    c.write_rehearsal_closing-at.ensures.written ∙ closing_is p holds c.agents-agents.result t c.in_ok-ran.ran.held c.in_ok-ran.ran.end c.agents-agents.ensures.count ran.held ran.end in
    let whole = rest_of_row c.write_rehearsal_closing-at.new.row 100 c.write_rehearsal_closing-at.result (omega arith) in
    let stops = stops_in_closing p holds t (g.O.TraceOut.state c.args.out.now) (g.O.TraceOut.state c.run_lines.new.out) (g.O.TraceOut.state c.put_all.new.out) c.put_all.result _ over.0 ran.taken c.put_all.ensures (sym c.is_err.ensures.value ∙ c.if-is_err.true) (whole ∙ closing) in (
      t,
      record {
        needed = ran.needed;
        asked = record { left = ran.asked.left; kept = ran.asked.kept; ended = ran.asked.ended; fault = ran.asked.fault };
        taken = stops.0;
        failed = stops.1;
      },
    )

pub returns-in_err-ran : goal.returns-in_err-ran
returns-in_err-ran g c =
    let told = err_from_is_err_and c.from_residual.result c.from_residual.ensures.1 in
    rw (told.1, told.2) (rehearses_so (g.P.ProgramView.program c.args.program.now) (g.S.HoldSource.state c.args.source.now) _ _ _ c.run_lines.new.machine.configuration c.in_err-ran.field-0.0 c.in_err-ran.ensures.lines)

pub returns : goal.returns
returns g c =
    let p = g.P.ProgramView.program c.args.program.now in
    let s = g.S.HoldSource.state c.args.source.now in
    let mid = g.O.TraceOut.state c.run_lines.new.out in
    let after = g.O.TraceOut.state c.put_all.new.out in
    let ran = c.in_ok-ran.ensures.lines.1 in
    let r = c.in_ok-ran.ran in
    let closing : drop c.write_rehearsal_closing-at.result c.write_rehearsal_closing-at.new.row ≡ rehearsal_closing p s.ticks r.ticks =
    c.write_rehearsal_closing-at.ensures.written ∙ closing_is p s.ticks c.agents-agents.result r.ticks r.held r.end c.agents-agents.ensures.count ran.held ran.end in
    let whole = rest_of_row c.write_rehearsal_closing-at.new.row 100 c.write_rehearsal_closing-at.result (omega arith) in
    let took = took_all mid after c.put_all.result _ c.put_all.ensures (sym c.is_err.ensures.value ∙ c.if-is_err.false) in
    rehearsed p s (g.S.HoldSource.state c.run_lines.new.source) (g.O.TraceOut.state c.args.out.now) mid after c.agents-agents.result r ran c.agents-agents.ensures.count (subst (λ bytes. Takes mid after bytes) (whole ∙ closing) took)
