use Rattle.fleet_verify.proofs.Remains.{runs_on}
use Rattle.fleet_verify.proofs.rest.rests_run_on.Goals as goal

pub returns : goal.returns
returns c = runs_on
