use Rattle.std.proofs.Common.{arith}
use Rattle.fleet_model.proofs.Totals.{actions_fit, actions_more}
use Rattle.fleet_model.proofs.program.ProgramView.awaits_before.Goals as goal

pub overflow_add-before : goal.overflow_add-before
overflow_add-before g c =
    let fit = actions_fit (g.Self.ProgramView.program c.args.self.now) c.args.i c.loop-earlier.earlier c.agents.ensures.well_formed in
    omega (arith, fit, c.from-before.ensures, c.await_count.ensures, c.loop-earlier.invariant)

pub loop-earlier-preserved : goal.loop-earlier-preserved
loop-earlier-preserved g c =
    let more = actions_more (g.Self.ProgramView.program c.args.self.now) c.args.i c.loop-earlier.earlier in
    omega (arith, more, c.from-before.ensures, c.await_count.ensures, c.loop-earlier.invariant)
