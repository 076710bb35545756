use Rattle.fleet_verify.proofs.Remains.{rest_formed}
use Rattle.fleet_verify.proofs.rest.rests_are_well_formed.Goals as goal

pub returns : goal.returns
returns c = rest_formed
