use Rattle.fleet_run.proofs.Words.{◌++◌, [], ◌∷◌, ◌∙◌, sym, ap, Result, Ok, Err, OnOk, take_all, each_spaced, spaced_more, line_written, tick_line}
use Rattle.std.specs.Fmt.{decimal}
use Rattle.fleet_run.proofs.HoldsWritten.{last_written}
use Rattle.fleet_run.proofs.hold_writing.put_tick.Goals as goal

-- what follows from a success
on_ok : {T E : Type 0} (r : Result T E) (P Q : Type 0) → (P → Q) → OnOk r P → OnOk r Q
on_ok (Ok x) P Q f h = f h
on_ok (Err e) P Q f h = tt

pub returns : goal.returns
returns c =
    let before = c.args.text.now.items in
    let others = c.in-Some.others.now in
    let last = c.in-Some.last.now in
    let all = take_all c.loop-agent.agent-index others c.loop-agent-test.false in
    on_ok c.put_agent-2.result _ _
    (λ put.
    line_written decimal before c.loop-agent.text.items _ others last (c.loop-agent.invariant ∙ ap (λ agents. before ++ each_spaced decimal agents) all) put
    ∙ ap (λ line. before ++ line ++ 10 ∷ []) (last_written others last ∙ ap tick_line (sym c.in-Some.ensures.cases.0)))
    c.put_agent-2.ensures

pub loop-agent-preserved : goal.loop-agent-preserved
loop-agent-preserved c =
    spaced_more decimal c.args.text.now.items c.loop-agent.text.items _ c.in-Some.others.now c.loop-agent.agent-index 0 c.loop-agent-test.true c.loop-agent.invariant c.in_ok-put_agent.ensures
