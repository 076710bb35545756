use Rattle.fleet_run.proofs.Words.{◌≡◌, refl, ℕ, arith, [], ◌∙◌, ap, sym, subst, is_passable, IsShown, Drives, opening, standing_at, IsFinish}
use Rattle.fleet_run.proofs.UnderWay.{at_opening, told_in_time, told_unless_failed}
use Rattle.fleet_run.proofs.Progress.{arrived_if_told, longest_if_told}
use Rattle.fleet_run.proofs.fleet.drive.Goals as goal

pub run_trace-requires-clause-can : goal.run_trace-requires-clause-can
run_trace-requires-clause-can g c =
    let running = c.fleet.invariant in
    let p = g.P.ProgramView.program c.fleet.inside.accepted.program in
    let here = c.fleet.inside.machine.configuration in
    let counts = rw (← c.fleet.view_is) at c.requires.counts in
    let start : here ≡ opening p = at_opening p here running.reached (λ i h. counts i (standing_at [] 0) (omega (arith, running.runs.agents))) in
    record {
      runs = rw c.program.ensures.program running.runs;
      starts = start ∙ ap (λ q. opening (g.P.ProgramView.program q)) (sym c.program.ensures.program);
      source_works = c.requires.source;
      sink_works = c.requires.sink;
    }

pub run_trace-requires-clause-shown : goal.run_trace-requires-clause-shown
run_trace-requires-clause-shown g c =
    let running = c.fleet.invariant in
    let parts = c.fleet.inside.accepted in
    let p = g.P.ProgramView.program parts.program in
    let same : g.P.ProgramView.program c.program.result.now ≡ p = ap g.P.ProgramView.program c.program.ensures.program in
    let accepted = running.accepted_for.accepted in
    let shown : IsShown p c.chain-chain.result = record {
      longest = c.chain-chain.ensures.accepted.longest;
      never_stuck = c.runs_end.ensures.not_stuck (is_passable parts.grid) parts.instance p accepted;
    } in
    subst (λ q. IsShown q c.chain-chain.result) (sym same) shown

pub returns : goal.returns
returns g c =
    let running = c.fleet.invariant in
    let parts = c.fleet.inside.accepted in
    let p = g.P.ProgramView.program parts.program in
    let s = g.S.HoldSource.state c.args.source.now in
    let s' = g.S.HoldSource.state c.run_trace.new.source in
    let o = g.O.TraceOut.state c.args.out.now in
    let o' = g.O.TraceOut.state c.run_trace.new.out in
    let chain = c.chain-chain.result in
    let here = c.run_trace.new.machine.configuration in
    let r = c.run_trace.result in
    let longest = c.chain-chain.ensures.accepted.longest in
    let told : Drives p chain s s' o o' here r = subst (λ q. Drives (g.P.ProgramView.program q) chain s s' o o' here r) c.program.ensures.program c.run_trace.ensures.outcome in
    let arrive = λ (f : ℕ) (h : IsFinish p s.ticks f). c.runs_arrive.ensures.arrive (is_passable parts.grid) parts.instance p running.accepted_for.accepted s.ticks chain f longest h in
    rw (← c.fleet.view_is) (record {
      accepted = refl {a = parts};
      looked = c.run_trace.ensures.looked;
      outcome = subst (λ n. Drives p n s s' o o' here r) c.chain-chain.ensures.chain told;
      longest = longest_if_told p chain s s' o o' here r p longest told;
      in_time = told_in_time p chain s s' o o' here r arrive told;
      arrived = arrived_if_told p chain s s' o o' here r arrive told;
      reports = told_unless_failed p chain s s' o o' here r told;
    })
