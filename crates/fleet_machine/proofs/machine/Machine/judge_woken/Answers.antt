use Rattle.fleet_machine.proofs.Ticking.{can_judge_woken, settled}
use Rattle.fleet_machine.proofs.machine.Machine.judge_woken.Goals as goal

pub judge_due-requires : goal.judge_due-requires
judge_due-requires g c =
    let h = c.requires.woken.2 in
    can_judge_woken (g.P.ProgramView.program c.args.program.now) c.requires.woken.1 c.requires.woken.0 h.runs c.args.self.now h.woken

pub returns : goal.returns
returns g c =
    λ before held h.
    settled (g.P.ProgramView.program c.args.program.now) held before h.runs c.args.self.now h.woken c.judge_due.new.self c.judge_due.result c.judge_due.ensures
