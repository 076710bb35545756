use Rattle.fleet_verify.proofs.RunCounts.{greatest_is}
use Rattle.fleet_verify.proofs.reach.Reach.greatest.Goals as goal

pub returns : goal.returns
returns c = λ p h is l. greatest_is p c.args.to c.args.agent c.greatest.result (c.greatest.ensures p h is l)
