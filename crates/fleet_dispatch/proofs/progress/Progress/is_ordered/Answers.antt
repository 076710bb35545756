use Rattle.std.proofs.Common.{◌∙◌, ◌<◌, length, arith}
use Rattle.fleet_dispatch.proofs.Steps.{told_of_all, ordered_if}
use Rattle.fleet_dispatch.proofs.progress.Progress.is_ordered.Goals as goal

pub returns : goal.returns
returns g c = λ k same.
    let p = g.P.ProgramView.program c.args.program.now in
    let agent : c.args.word.agent < length p = omega (arith, c.if-is_nobody.false, c.from-agents.ensures, c.agents.ensures.count) in
    ordered_if p k c.args.self.now.done c.args.word c.said.result c.told_of.result agent c.said.ensures (c.told_of.ensures ∙ told_of_all p k c.args.self.now.told c.args.self.now.done c.args.word.agent same agent)
