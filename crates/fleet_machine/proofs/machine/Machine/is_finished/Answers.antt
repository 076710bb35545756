use Rattle.fleet_machine.proofs.Judging.{finished_is}
use Rattle.fleet_machine.proofs.machine.Machine.is_finished.Goals as goal

pub returns : goal.returns
returns g c = finished_is (g.P.ProgramView.program c.args.program.now) c.args.self.now c.requires.runs c.next_left.result c.is_none.result c.next_left.ensures c.is_none.ensures
