use Rattle.fleet_verify.proofs.Words.{below_more, arith, refl, ComesAfter, nat_eq, get, number_of, IsPathOrderly}
use Rattle.fleet_verify.proofs.Judged.{all_in_turn, none_broken}
use Rattle.fleet_verify.proofs.Ordered.{no_entries}
use Rattle.fleet_verify.proofs.order.check_cells.Goals as goal

pub returns-then-is_empty-clause-ok : goal.returns-then-is_empty-clause-ok
returns-then-is_empty-clause-ok g c =
    let found = c.args.violations.now in
    let before = c.requires.violations in
    none_broken (g.P.ProgramView.program c.args.program.now) before.placed (λ d. get nat_eq found (number_of d)) before.all before.each before.violations
    (λ d. rw (no_entries found.entries (c.is_empty.ensures.0 c.if-is_empty.true)) refl)

pub loop-agent-preserved : goal.loop-agent-preserved
loop-agent-preserved g c =
    below_more (λ i. IsPathOrderly ComesAfter (g.P.ProgramView.program c.args.program.now) i) c.loop-agent.agent c.loop-agent.invariant c.in_ok-check_path.ensures.ok

pub returns-clause-ok : goal.returns-clause-ok
returns-clause-ok g c =
    all_in_turn (g.P.ProgramView.program c.args.program.now) c.requires.violations.placed c.loop-agent.agent c.requires.violations.all c.loop-agent.invariant (omega (arith, c.agents-agent-end.ensures.count))
