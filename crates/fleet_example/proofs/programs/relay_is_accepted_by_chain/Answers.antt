use Rattle.std.proofs.Common.{[], ◌∷◌, refl}
use Rattle.fleet_example.specs.Programs.{relay, is_on_open_map, place_xy, nth_visit, nth_action}
use Rattle.fleet_example.proofs.ComputedOrder.{accepted_by_chain, unawaited}
use Rattle.fleet_example.proofs.programs.relay_is_accepted_by_chain.Goals as goal

pub returns-clause-by_chain : goal.returns-clause-by_chain
returns-clause-by_chain c = accepted_by_chain (is_on_open_map 3 3) 1 (nth_action 1 1 ∷ nth_action 2 1 ∷ []) relay refl

-- agent 2 awaits agent 1 alone
pub returns-clause-not_by_await : goal.returns-clause-not_by_await
returns-clause-not_by_await c = unawaited (is_on_open_map 3 3) 1 relay (place_xy 1 0) (nth_visit 0 0) (nth_visit 2 1) refl
