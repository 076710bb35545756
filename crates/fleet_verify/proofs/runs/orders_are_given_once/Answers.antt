use Rattle.fleet_verify.proofs.Claimed.{given_once}
use Rattle.fleet_verify.proofs.runs.orders_are_given_once.Goals as goal

pub returns : goal.returns
returns c = given_once
