use Rattle.fleet_needs.proofs.Words.{arith}
use Rattle.fleet_needs.proofs.RowsMade.{next_join}
use Rattle.fleet_needs.proofs.schedule.Schedule.join_after.Goals as goal

pub returns : goal.returns
returns g c =
    next_join (g.P.ProgramView.program c.args.program.now) c.args.self.now c.requires.schedule c.args.n c.requires.within _ c.action.ensures c.base.ensures c.end-first.ensures (omega (arith, c.end-first.ensures, c.end.ensures, (c.requires.schedule.made.joins c.args.n c.requires.within).count))
