use Rattle.fleet_needs.proofs.Joining.{awaited_action}
use Rattle.fleet_needs.proofs.await_places.awaited_at.Goals as goal

pub returns-clause-action : goal.returns-clause-action
returns-clause-action g c =
    awaited_action (g.P.ProgramView.program c.args.program.now) c.requires.range c.args.action.agent c.args.action.number c.args.k c.await_at-awaited.result c.await_at-awaited.ensures
