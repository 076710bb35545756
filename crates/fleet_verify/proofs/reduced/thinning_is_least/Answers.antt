use Rattle.fleet_verify.proofs.SameChains.{thinned_least}
use Rattle.fleet_verify.proofs.reduced.thinning_is_least.Goals as goal

pub returns : goal.returns
returns c = λ p q number s range h. thinned_least p q number s range h
