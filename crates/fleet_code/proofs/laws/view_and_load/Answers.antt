use Rattle.fleet_code.proofs.Agreement.{agree}
use Rattle.fleet_code.proofs.laws.view_and_load.Goals as goal

pub returns-clause-agree : goal.returns-clause-agree
returns-clause-agree c = agree c.args.bytes.now _ _ c.view.ensures.found c.view.ensures.fault c.load.ensures.found c.load.ensures.fault
