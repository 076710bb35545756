use Rattle.fleet_verify.specs.LastVisits.{kept_at}
use Rattle.fleet_verify.proofs.Ordered.{added_none}
use Rattle.fleet_verify.proofs.ahead.empty.Goals as goal

pub returns-clause-added : goal.returns-clause-added
returns-clause-added c = λ p. added_none p (kept_at c.args.last) c.new-3.result.items c.requires c.new-3.ensures.items
