use Rattle.fleet_needs.proofs.Words.{ap, arith, take_all, Program, total_awaits}
use Rattle.fleet_needs.proofs.{Flagged.none_flagged, Settling.settled_on}
use Rattle.fleet_needs.proofs.settled.settle_all.Goals as goal

pub loop-agent-init : goal.loop-agent-init
loop-agent-init g c = record {
  agents = omega (arith, c.in_ok-asked.ensures.len, c.from.ensures, c.agents-agents.ensures.count);
  settled = none_flagged (g.P.ProgramView.program c.args.program.now) _ _ _ c.in_ok-places.ensures (c.in_ok-flags.ensures.items_if_clones_equal (λ y same. same)) c.total_awaits.ensures;
}

pub returns : goal.returns
returns g c =
    let p = g.P.ProgramView.program c.args.program.now in
    settled_on p _ _ _ _ (omega (arith, ap (λ (xs : Program). total_awaits xs) (take_all c.loop-agent.agent p (omega (arith, c.loop-agent-test.false, c.agents-agents.ensures.count))))) c.loop-agent.invariant
