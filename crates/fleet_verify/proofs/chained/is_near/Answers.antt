use Rattle.fleet_verify.proofs.Words.{arith, subst, ActionId, IsAction, Reaches, awaited, entering, leaving}
use Rattle.fleet_needs.proofs.Joining.{awaited_action}
use Rattle.fleet_verify.proofs.Asked.{reached_on}
use Rattle.fleet_verify.proofs.chained.is_near.Goals as goal

pub awaits-requires-clause-action : goal.awaits-requires-clause-action
awaits-requires-clause-action g c =
    let a = entering c.args.pair.second in
    awaited_action (g.P.ProgramView.program c.args.program.now) c.requires.range a.agent a.number c.loop-k.k c.await_at-awaited.result c.await_at-awaited.ensures

pub returns-then-awaits : goal.returns-then-awaits
returns-then-awaits g c = λ _.
    let p = g.P.ProgramView.program c.args.program.now in
    let is : IsAction p (entering c.args.pair.second) = record { agent = c.requires.visits.second.agent; first = omega (arith, c.if-is_start.false); last = c.requires.visits.second.position } in
    reached_on p c.requires.range (leaving p c.args.pair.first) (entering c.args.pair.second) c.loop-k.k c.await_at-awaited.result is c.await_at-awaited.ensures
    (subst (λ (a : ActionId). Reaches p a (awaited c.await_at-awaited.result)) c.leaving-first.ensures (c.awaits.ensures c.if-awaits.true))
