use Rattle.fleet_verify.proofs.Words.{length, arith, below_more, IsBlocked, WaitsBack}
use Rattle.fleet_verify.proofs.Waiting.{some_back}
use Rattle.fleet_verify.proofs.unheld_run.least_on_ring.Goals as goal
use Rattle.fleet_verify.proofs.unheld_run.least_on_ring.Goals.{else-is_blocked-via-then-is_blocked+else-leads_back, else-is_blocked-via-else-is_blocked}

pub loop-i-preserved : goal.loop-i-preserved
loop-i-preserved g c =
    let p = g.P.ProgramView.program c.args.program.now in
    let counts = c.args.counts.now in
    let wants = c.args.wants.now in
    below_more (λ j. IsBlocked p counts j → WaitsBack wants (length p) j → ⊥) c.loop-i.i c.loop-i.invariant
    (λ blocked back.
    elim c.else-is_blocked.branch [
      | else-is_blocked-via-then-is_blocked+else-leads_back w ↦ let yes = w.leads_back.ensures.1 back in absurd (cc (yes, w.if-leads_back.false))
      | else-is_blocked-via-else-is_blocked w ↦ omega (arith, blocked.left, w.if-is_blocked.false, c.moves.ensures)
    ])

pub unreachable-requires : goal.unreachable-requires
unreachable-requires g c =
    let r = some_back (g.P.ProgramView.program c.args.program.now) c.args.counts.now c.args.wants.now c.requires.ranges c.requires.wants c.requires.left.0 c.requires.left.1 in
    c.loop-i.invariant r.0 (omega (arith, r.1.agent, c.agents-i-end.ensures.count)) r.1 r.2

pub leads_back-requires : goal.leads_back-requires
leads_back-requires g c =
    record {
      ranges = c.requires.ranges;
      wants = c.requires.wants;
      blocked = record { agent = omega (arith, c.agents-i-end.ensures.count); left = omega (arith, c.if-is_blocked.true, c.moves.ensures) };
    }

pub returns-then-leads_back : goal.returns-then-leads_back
returns-then-leads_back g c =
    record {
      blocked = record { agent = omega (arith, c.agents-i-end.ensures.count); left = omega (arith, c.if-is_blocked.true, c.moves.ensures) };
      back = c.leads_back.ensures.0 c.if-leads_back.true;
      least = c.loop-i.invariant;
    }
