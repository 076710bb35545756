use Rattle.fleet_verify.proofs.Begin.{begun_orderly}
use Rattle.fleet_verify.proofs.ahead_laws.begun_visits_are_orderly.Goals as goal

pub returns : goal.returns
returns c = begun_orderly
