use Rattle.fleet_grid.proofs.ListLaws.{own-none, none-by_key}
use Rattle.fleet_grid.proofs.table.Lists.new.Goals as goal

pub invariant_of-result : goal.invariant_of-result
invariant_of-result g c = own-none c.new.result.items c.new-2.result.items c.new.ensures.items

pub returns : goal.returns
returns g c = none-by_key c.new.result.items c.new-2.result.items c.new.ensures.items
