use Rattle.fleet_run.proofs.Lines.{kept_before}
use Rattle.fleet_run.proofs.run.tick_row.Goals as goal

pub write_moved-requires-clause-before : goal.write_moved-requires-clause-before
write_moved-requires-clause-before g c =
    kept_before (g.P.ProgramView.program c.args.program.now) _ c.args.machine.now.configuration _ _ _ _ c.requires.runs.agents c.requires.kept c.tick-tick.ensures.after c.tick-tick.ensures.moving
