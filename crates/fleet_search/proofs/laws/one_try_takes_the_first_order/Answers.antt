use Rattle.fleet_search.proofs.OrderLaws.{one_try-made, one_try-stuck}
use Rattle.fleet_search.proofs.laws.one_try_takes_the_first_order.Goals as goal

pub returns : goal.returns
returns c = record { made = one_try-made; stuck = one_try-stuck }
