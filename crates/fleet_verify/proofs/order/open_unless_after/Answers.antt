use Rattle.fleet_verify.proofs.Words.{Some, refl, ComesAfterByAwait}
use Rattle.fleet_verify.proofs.Ordered.{pairs_after, pairs_more}
use Rattle.fleet_verify.proofs.order.open_unless_after.Goals as goal

pub returns-then-comes_after : goal.returns-then-comes_after
returns-then-comes_after g c =
    pairs_after (ComesAfterByAwait (g.P.ProgramView.program c.args.program.now)) (Some c.args.first) c.args.placed c.args.pairs.now.items c.args.first refl (c.comes_after.ensures.0 c.if-comes_after.true)

pub returns : goal.returns
returns g c =
    pairs_more (ComesAfterByAwait (g.P.ProgramView.program c.args.program.now)) (Some c.args.first) c.args.placed c.args.pairs.now.items c.push.new.self.items c.args.first refl
    (λ after. let yes = c.comes_after.ensures.1 after in absurd (cc (yes, c.if-comes_after.false))) c.in_ok-push.ensures.items
