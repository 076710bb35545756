use Rattle.fleet_run.proofs.Words.{arith, err_from_is_err_and, Time}
use Rattle.fleet_run.proofs.Passing.{ends_in_time, goes_on_in_time, stops_in_time}
use Rattle.fleet_run.proofs.UnderWay.{few_held, few_ticks}
use Rattle.fleet_run.proofs.run.run_in.Goals as goal

pub returns-in_err-more-clause-lines : goal.returns-in_err-more-clause-lines
returns-in_err-more-clause-lines g c =
    let time : Time = record { ticks = c.ticks.counts.ticks; source_ended = c.ticks.source_ended; end = c.end_at-end.result } in
    let told = err_from_is_err_and c.from_residual.result c.from_residual.ensures.1 in
    rw (told.1, told.2) (stops_in_time time _ _ _ c.ticks.invariant.so_far c.pass_time.auto.flags c.end_at-end.ensures c.in_err-more.field-0.0 (c.in_err-more.ensures.passes c.ticks.machine.configuration c.ticks.invariant.kept.kept))

pub returns-in-Some-clause-lines : goal.returns-in-Some-clause-lines
returns-in-Some-clause-lines g c =
    let time : Time = record { ticks = c.ticks.counts.ticks; source_ended = c.ticks.source_ended; end = c.end_at-end.result } in
    ends_in_time time _ _ _ c.ticks.invariant.so_far c.pass_time.auto.flags c.end_at-end.ensures c.in_ok-more.more c.in-Some.end c.in-Some.is (c.in_ok-more.ensures.passes c.ticks.machine.configuration c.ticks.invariant.kept.kept)

pub after-counts-requires-clause-held : goal.after-counts-requires-clause-held
after-counts-requires-clause-held g c =
    let p = g.P.ProgramView.program c.args.program.now in
    let s = g.S.HoldSource.state c.args.source.now in
    let before = c.ticks.invariant.so_far.under_way in
    omega (arith, few_held p s _ _ _ _ _ before, few_ticks p s _ _ _ _ _ before)

pub ticks-smaller : goal.ticks-smaller
ticks-smaller g c =
    let time : Time = record { ticks = c.ticks.counts.ticks; source_ended = c.ticks.source_ended; end = c.end_at-end.result } in
    rw c.tick_row-ready_held.ensures.ticked.after
    (goes_on_in_time time _ _ _ c.ticks.invariant.so_far c.pass_time.auto.flags c.end_at-end.ensures c.in_ok-more.more c.in_default.is c.requires.can.runs.well_formed (c.in_ok-more.ensures.passes c.ticks.machine.configuration c.ticks.invariant.kept.kept)).1

pub ticks-preserved : goal.ticks-preserved
ticks-preserved g c =
    let time : Time = record { ticks = c.ticks.counts.ticks; source_ended = c.ticks.source_ended; end = c.end_at-end.result } in
    let on = goes_on_in_time time _ _ _ c.ticks.invariant.so_far c.pass_time.auto.flags c.end_at-end.ensures c.in_ok-more.more c.in_default.is c.requires.can.runs.well_formed (c.in_ok-more.ensures.passes c.ticks.machine.configuration c.ticks.invariant.kept.kept) in
    record {
      runs = c.tick_row-ready_held.ensures.ticked.runs;
      looked = let before = c.ticks.invariant.looked in omega (arith, c.tick_row-ready_held.ensures.ticked.looked);
      so_far = rw (c.tick_row-ready_held.ensures.ticked.after, c.after-counts.ensures.ticks, c.after-counts.ensures.held, c.tick_row-ready_held.ensures.ticked.held) on.0;
      kept = c.tick_row-ready_held.ensures.kept;
    }

pub pass_time-requires-clause-few : goal.pass_time-requires-clause-few
pass_time-requires-clause-few g c =
    omega (arith, few_ticks (g.P.ProgramView.program c.args.program.now) (g.S.HoldSource.state c.args.source.now) _ _ _ _ _ c.ticks.invariant.so_far.under_way)

pub pass_time-requires-clause-kept : goal.pass_time-requires-clause-kept
pass_time-requires-clause-kept g c = (c.ticks.machine.configuration, c.ticks.invariant.kept.kept)

pub after-counts-requires-clause-few : goal.after-counts-requires-clause-few
after-counts-requires-clause-few g c =
    omega (arith, few_ticks (g.P.ProgramView.program c.args.program.now) (g.S.HoldSource.state c.args.source.now) _ _ _ _ _ c.ticks.invariant.so_far.under_way)

pub tick_row-ready_held-requires-clause-kept : goal.tick_row-ready_held-requires-clause-kept
tick_row-ready_held-requires-clause-kept g c =
    record { kept = c.pass_time.ensures.kept c.ticks.machine.configuration c.ticks.invariant.kept.kept; placed = c.ticks.invariant.kept.placed }
