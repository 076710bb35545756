use Rattle.fleet_verify.proofs.Words.{awaited_agent, refl, subst, ◌<◌, length, arith}
use Rattle.fleet_verify.proofs.Leaving.{after_found, after_more, after_none}
use Rattle.fleet_verify.proofs.order.comes_after.Goals as goal
use Rattle.fleet_verify.proofs.order.comes_after.Goals.{else-awaited-first-via-then-awaited-first+else-is_left_by, else-awaited-first-via-else-awaited-first}

pub is_left_by-requires : goal.is_left_by-requires
is_left_by-requires g c =
    subst (λ i. i < length (g.P.ProgramView.program c.args.program.now)) c.if-awaited-first.true
    (awaited_agent (g.P.ProgramView.program c.args.program.now) c.args.second.agent c.args.second.position c.loop-k.k c.await_at-awaited.result c.agents-agents.ensures.well_formed c.await_at-awaited.ensures)

pub returns-then-is_left_by : goal.returns-then-is_left_by
returns-then-is_left_by g c = (
  (λ t. after_found (g.P.ProgramView.program c.args.program.now) c.args.first c.args.second c.loop-k.k c.await_at-awaited.result c.await_at-awaited.ensures c.if-awaited-first.true (c.is_left_by.ensures.0 c.if-is_left_by.true)),
  (λ h. refl),
)

pub returns : goal.returns
returns g c = (
  (λ t. absurd cc),
  (λ h. absurd (after_none (g.P.ProgramView.program c.args.program.now) c.args.first c.args.second c.loop-k.k (λ o. omega (arith, o.0, o.1, c.else-first-second.either)) (omega arith) c.loop-k.invariant h)),
)

pub loop-k-preserved : goal.loop-k-preserved
loop-k-preserved g c =
    after_more (g.P.ProgramView.program c.args.program.now) c.args.first c.args.second c.loop-k.k c.await_at-awaited.result c.await_at-awaited.ensures
    (λ same le.
    elim c.else-awaited-first.branch [
      | else-awaited-first-via-then-awaited-first+else-is_left_by w ↦ let yes = w.is_left_by.ensures.1 le in absurd (cc (yes, w.if-is_left_by.false))
      | else-awaited-first-via-else-awaited-first w ↦ w.if-awaited-first.false same
    ]) c.loop-k.invariant
