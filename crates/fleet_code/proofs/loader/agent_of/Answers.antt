use Rattle.fleet_code.proofs.Copied.{agent_is}
use Rattle.fleet_code.proofs.loader.agent_of.Goals as goal

pub returns : goal.returns
returns g c = rw (c.new.ensures, c.start.ensures, c.goal.ensures, c.in_ok-actions.ensures) (agent_is (g.P.ProgramView.program c.args.program.now) c.args.i c.requires)
