use Rattle.fleet_verify.proofs.Listing.{awaits_accepted}
use Rattle.fleet_verify.proofs.orders.awaits_are_chains.Goals as goal

pub returns : goal.returns
returns c = λ passable tasks p a. awaits_accepted passable tasks p a
