use Rattle.fleet_adg.proofs.Alike.{same_chains, run_alike}
use Rattle.fleet_adg.proofs.laws.compiled_plans_run_equally.Goals as goal

pub returns-clause-chains : goal.returns-clause-chains
returns-clause-chains c passable tasks plan d e free = same_chains passable tasks plan free d e

pub returns-clause-equally : goal.returns-clause-equally
returns-clause-equally c passable tasks plan d e free = run_alike passable tasks plan free d e
