use Rattle.fleet_verify.proofs.Remains.{rest_whole}
use Rattle.fleet_verify.proofs.rest.rests_begin_whole.Goals as goal

pub returns : goal.returns
returns c = rest_whole
