use Rattle.fleet_run.proofs.Words.{◌≡◌, rules, arith, ◌+◌, sym, ◌∙◌, start_of, goal_of, moves, takes_more, takes_then, takes_err_then, agent_line, action_line}
use Rattle.fleet_verify.proofs.Paths.{in_reach, step_from}
use Rattle.fleet_run.proofs.Rehearsed.{one_text_more, refused_in_text}
use Rattle.fleet_run.proofs.listing.put_agent.Goals as goal

pub returns-in_err-put_agent_line : goal.returns-in_err-put_agent_line
returns-in_err-put_agent_line g c =
    let p = g.P.ProgramView.program c.args.program.now in
    takes_err_then _ _ _ (agent_line c.args.i (start_of p c.args.i) (goal_of p c.args.i)) _ (search rules) (rw (c.start-start.ensures, c.goal.ensures) at c.in_err-put_agent_line.ensures)

pub after-place-requires : goal.after-place-requires
after-place-requires g c =
    let p = g.P.ProgramView.program c.args.program.now in
    in_reach p c.requires.well_formed c.args.i c.loop-n.n c.loop-n.place (omega (arith, c.moves-n-end.ensures, c.loop-n-test.true)) c.loop-n.invariant.there

pub put_action-requires-clause-place : goal.put_action-requires-clause-place
put_action-requires-clause-place g c =
    c.after-place.ensures ∙ sym (step_from (g.P.ProgramView.program c.args.program.now) c.args.i c.loop-n.n c.loop-n.place _ c.loop-n.invariant.there c.step.ensures)

pub returns-in_err-put_action : goal.returns-in_err-put_action
returns-in_err-put_action g c =
    let p = g.P.ProgramView.program c.args.program.now in
    takes_then _ _ _ _ (agent_line c.args.i (start_of p c.args.i) (goal_of p c.args.i)) _ (rw (c.start-start.ensures, c.goal.ensures) at c.in_ok-put_agent_line.ensures)
    (refused_in_text (λ n. action_line p c.args.i (n + 1)) _ _ _ c.loop-n.n c.loop-n.invariant.written _
    (moves p c.args.i) (omega (arith, c.moves-n-end.ensures)) (search rules) c.in_err-put_action.ensures)

pub loop-n-preserved : goal.loop-n-preserved
loop-n-preserved g c =
    let p = g.P.ProgramView.program c.args.program.now in
    record {
      written = one_text_more (λ n. action_line p c.args.i (n + 1)) _ _ _ c.loop-n.n c.loop-n.invariant.written c.in_ok-put_action.ensures;
      there = c.after-place.ensures ∙ sym (step_from p c.args.i c.loop-n.n c.loop-n.place _ c.loop-n.invariant.there c.step.ensures);
    }

pub returns : goal.returns
returns g c =
    let p = g.P.ProgramView.program c.args.program.now in
    let all : c.loop-n.n ≡ moves p c.args.i = omega (arith, c.moves-n-end.ensures, c.loop-n-test.false) in
    takes_more _ _ _ (agent_line c.args.i (start_of p c.args.i) (goal_of p c.args.i)) _ (rw (c.start-start.ensures, c.goal.ensures) at c.in_ok-put_agent_line.ensures)
    (rw all at c.loop-n.invariant.written)
