use Rattle.fleet_verify.proofs.Words.{rules, map, ap, subst, take_all, next_words, PassesOn, gathers_err, passed_element, stops_within_element, action_text}
use Rattle.fleet_verify.proofs.fault.put_actions.Goals as goal

pub returns-in_err-add_next_two : goal.returns-in_err-add_next_two
returns-in_err-add_next_two g c =
    gathers_err _ _ _ _ _ _ (search rules)
    (stops_within_element action_text _ _ _ _ _ _ _ _ c.loop-action-test.true c.loop-action.invariant.written c.in_err-add_next_two.ensures)

pub loop-action-preserved : goal.loop-action-preserved
loop-action-preserved g c = record {
  written = passed_element action_text _ _ _ _ _ _ _ _ _ c.loop-action-test.true c.loop-action.invariant.written c.in_ok-add_next_two.ensures;
}

pub returns : goal.returns
returns g c =
    let all = ap (λ xs. next_words (map action_text xs)) (take_all c.loop-action.action-index c.args.actions.now c.loop-action-test.false) in
    subst (PassesOn (g.O.TraceOut.state c.args.out.now) (g.O.TraceOut.state c.loop-action.out) c.args.row.now c.loop-action.row) all c.loop-action.invariant.written
