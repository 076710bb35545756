use Rattle.fleet_needs.proofs.Words.{◌≡◌, ◌+◌, ◌-◌, List, length, sum_by, ap, arith, take_all, Action, awaits_more, awaits_before, actions_of}
use Rattle.fleet_needs.proofs.Settling.{settled_on}
use Rattle.fleet_needs.proofs.settled.settle_agent.Goals as goal

pub loop-finished-init : goal.loop-finished-init
loop-finished-init g c = settled_on _ _ _ _ _ (omega arith) c.requires.settled

pub returns : goal.returns
returns g c =
    let p = g.P.ProgramView.program c.args.program.now in
    let e : c.loop-finished.finished + 1 - 1 ≡ c.loop-finished.finished = omega arith in
    let whole = take_all c.loop-finished.finished (actions_of p c.args.agent) (omega (arith, c.loop-finished-test.false, c.moves-finished-end.ensures)) in
    settled_on p _ _ _ _ (omega (arith, ap (awaits_before p c.args.agent) e, awaits_more p c.args.agent, ap (λ (xs : List Action). sum_by (λ (s : Action). length s.awaits) xs) whole)) c.loop-finished.invariant
