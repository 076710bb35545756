use Rattle.fleet_machine.specs.Machine.{mark_of}
use Rattle.fleet_machine.proofs.Marks.{passed_fits}
use Rattle.fleet_machine.proofs.machine.Machine.finish_action.Goals as goal

pub pass-requires-clause-few : goal.pass-requires-clause-few
pass-requires-clause-few g c =
    passed_fits (g.P.ProgramView.program c.args.program.now) c.args.self.now.configuration c.args.i (mark_of c.args.self.now.marks c.args.i) c.requires.next.well_formed c.requires.read
