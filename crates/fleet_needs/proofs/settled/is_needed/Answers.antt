use Rattle.std.proofs.Common.{leb-true}
use Rattle.fleet_needs.proofs.Settling.{needed_by}
use Rattle.fleet_needs.proofs.settled.is_needed.Goals as goal

pub returns-then-is_of_agent : goal.returns-then-is_of_agent
returns-then-is_of_agent g c = λ e.
    needed_by (g.P.ProgramView.program c.args.program.now) c.requires.range c.args.first c.args.action c.loop-from.from c.await_at-needed.result c.requires.first c.requires.action c.await_at-needed.ensures
    c.if-is_of_agent.true (leb-true c.args.first.number c.await_at-needed.result.count e)
