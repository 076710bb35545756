use Rattle.std.proofs.Common.{refl}
use Rattle.fleet_example.specs.Programs.{pair, is_on_open_map}
use Rattle.fleet_example.proofs.ComputedOrder.{accepted_by_await, accepted_if_awaited}
use Rattle.fleet_example.proofs.programs.pair_is_accepted.Goals as goal

pub returns-clause-by_await : goal.returns-clause-by_await
returns-clause-by_await c = accepted_by_await (is_on_open_map 4 1) 1 pair refl

pub returns-clause-by_chain : goal.returns-clause-by_chain
returns-clause-by_chain c = accepted_if_awaited (is_on_open_map 4 1) 1 pair refl
