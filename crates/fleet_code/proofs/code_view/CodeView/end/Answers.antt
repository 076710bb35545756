use Rattle.std.proofs.Common.{◌∙◌, arith}
use Rattle.fleet_code.proofs.InPlace.{after_end}
use Rattle.fleet_code.proofs.code_view.CodeView.end.Goals as goal

pub after-requires : goal.after-requires
after-requires c =
    let ends = after_end c.args.self.now.version c.args.self.now.program c.args.i c.args.n c.awaits_up_to.result c.awaits_up_to.ensures.value c.requires.actions in
    record { agent = c.requires.agent; within = (c.args.n, omega (arith, ends)) }

pub returns : goal.returns
returns c = c.after.ensures ∙ after_end c.args.self.now.version c.args.self.now.program c.args.i c.args.n c.awaits_up_to.result c.awaits_up_to.ensures.value c.requires.actions
