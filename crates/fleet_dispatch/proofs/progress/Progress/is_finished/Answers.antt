use Rattle.fleet_dispatch.proofs.Steps.{finished_is}
use Rattle.fleet_dispatch.proofs.progress.Progress.is_finished.Goals as goal

pub returns : goal.returns
returns g c =
    finished_is (g.P.ProgramView.program c.args.program.now) c.requires.leads.0 c.args.self.now c.requires.leads.1 c.next_left.result c.is_none.result c.next_left.ensures c.is_none.ensures
