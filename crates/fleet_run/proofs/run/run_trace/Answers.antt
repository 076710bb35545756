use Rattle.fleet_run.proofs.Words.{◌≡◌, length, arith, sym, subst, ◌∙◌, ap, drop, Takes, trace_closing, run, held_ticks, err_from_is_err_and}
use Rattle.fleet_run.proofs.UnderWay.{took_all, driven, drives_so, finished_at_end, stops_in_trace_closing, needed_to_finish}
use Rattle.fleet_run.proofs.Rehearsed.{rest_of_row}
use Rattle.fleet_run.proofs.run.run_trace.Goals as goal

pub returns-in_err-ran-clause-outcome : goal.returns-in_err-ran-clause-outcome
returns-in_err-ran-clause-outcome g c =
    let told = err_from_is_err_and c.from_residual.result c.from_residual.ensures.1 in
    rw (told.1, told.2) (drives_so (g.P.ProgramView.program c.args.program.now) c.args.chain (g.S.HoldSource.state c.args.source.now) _ _ _ c.run_lines.new.machine.configuration c.in_err-ran.field-0.0 c.in_err-ran.ensures.lines)

pub returns-then-is_err-clause-outcome : goal.returns-then-is_err-clause-outcome
returns-then-is_err-clause-outcome g c =
    let p = g.P.ProgramView.program c.args.program.now in
    let holds = (g.S.HoldSource.state c.args.source.now).ticks in
    let here = c.in_ok-ran.ensures.lines.0 in
    let ran = c.in_ok-ran.ensures.lines.1 in
    let t = c.in_ok-ran.ran.ticks in
    let over = finished_at_end p (run p holds t) c.in_ok-ran.ran.end (c.requires.shown.never_stuck holds t) ran.end in
    let closing : drop c.write_trace_closing-at.result c.write_trace_closing-at.new.row ≡ trace_closing (length p) t c.args.chain (held_ticks p holds t) =
    c.write_trace_closing-at.ensures.written ∙ (ap (λ n. trace_closing n t c.args.chain c.in_ok-ran.ran.held) c.agents-agents.ensures.count ∙ ap (trace_closing (length p) t c.args.chain) ran.held) in
    let whole = rest_of_row c.write_trace_closing-at.new.row 100 c.write_trace_closing-at.result (omega arith) in
    let stops = stops_in_trace_closing p c.args.chain holds t (g.O.TraceOut.state c.args.out.now) (g.O.TraceOut.state c.run_lines.new.out) (g.O.TraceOut.state c.put_all.new.out) c.put_all.result _ over ran.taken c.put_all.ensures (sym c.is_err.ensures.value ∙ c.if-is_err.true) (whole ∙ closing) in (
      t,
      here,
      record {
        needed = needed_to_finish p holds t ran.needed;
        asked = record { left = ran.asked.left; kept = ran.asked.kept; ended = ran.asked.ended; fault = ran.asked.fault };
        taken = stops.0;
        failed = stops.1;
      },
    )

pub returns-clause-outcome : goal.returns-clause-outcome
returns-clause-outcome g c =
    let p = g.P.ProgramView.program c.args.program.now in
    let s = g.S.HoldSource.state c.args.source.now in
    let mid = g.O.TraceOut.state c.run_lines.new.out in
    let after = g.O.TraceOut.state c.put_all.new.out in
    let here = c.in_ok-ran.ensures.lines.0 in
    let ran = c.in_ok-ran.ensures.lines.1 in
    let r = c.in_ok-ran.ran in
    let closing : drop c.write_trace_closing-at.result c.write_trace_closing-at.new.row ≡ trace_closing (length p) r.ticks c.args.chain (held_ticks p s.ticks r.ticks) =
    c.write_trace_closing-at.ensures.written ∙ (ap (λ n. trace_closing n r.ticks c.args.chain r.held) c.agents-agents.ensures.count ∙ ap (trace_closing (length p) r.ticks c.args.chain) ran.held) in
    let whole = rest_of_row c.write_trace_closing-at.new.row 100 c.write_trace_closing-at.result (omega arith) in
    let took = took_all mid after c.put_all.result _ c.put_all.ensures (sym c.is_err.ensures.value ∙ c.if-is_err.false) in
    (here, driven p c.args.chain s (g.S.HoldSource.state c.run_lines.new.source) (g.O.TraceOut.state c.args.out.now) mid after c.agents-agents.result r ran (c.requires.shown.never_stuck s.ticks r.ticks) c.agents-agents.ensures.count (subst (λ bytes. Takes mid after bytes) (whole ∙ closing) took))
