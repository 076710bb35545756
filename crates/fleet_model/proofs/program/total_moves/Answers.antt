use Rattle.std.proofs.Common.{arith}
use Rattle.fleet_model.proofs.Totals.{moves_fit, moves_more}
use Rattle.fleet_model.proofs.program.total_moves.Goals as goal

pub overflow_add-total : goal.overflow_add-total
overflow_add-total g c =
    omega (arith, moves_fit (g.P.ProgramView.program c.args.p.now) c.loop-i.i c.agents-i-end.ensures.well_formed, c.moves-total.ensures, c.loop-i.invariant)

pub loop-i-preserved : goal.loop-i-preserved
loop-i-preserved g c = omega (arith, moves_more (g.P.ProgramView.program c.args.p.now) c.loop-i.i, c.moves-total.ensures, c.loop-i.invariant)
