use Rattle.fleet_verify.proofs.Remains.{rest_accepted}
use Rattle.fleet_verify.proofs.rest.rests_are_accepted.Goals as goal

pub returns : goal.returns
returns c = rest_accepted
