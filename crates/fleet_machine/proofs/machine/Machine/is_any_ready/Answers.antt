use Rattle.std.proofs.Common.{◌∙◌}
use Rattle.fleet_machine.proofs.Judging.{any_ready_is}
use Rattle.fleet_machine.proofs.machine.Machine.is_any_ready.Goals as goal

pub returns : goal.returns
returns g c =
    let next = rw c.ready_cursor.ensures.from at c.next_ready.ensures.next in
    c.is_some.ensures ∙ any_ready_is (g.P.ProgramView.program c.args.program.now) c.args.self.now c.requires.runs c.next_ready.result next
