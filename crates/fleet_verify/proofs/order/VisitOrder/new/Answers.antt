use Rattle.fleet_verify.specs.LastVisits.{kept_at}
use Rattle.fleet_verify.proofs.Ordered.{added_none}
use Rattle.fleet_verify.proofs.order.VisitOrder.new.Goals as goal

pub returns : goal.returns
returns c = λ p. added_none p (kept_at c.new.result) c.new-2.result.items c.new.ensures c.new-2.ensures.items
