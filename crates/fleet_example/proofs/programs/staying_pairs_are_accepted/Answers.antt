use Rattle.std.proofs.Common.{[], ◌∷◌, refl}
use Rattle.fleet_example.specs.Programs.{late_pair, staying_pair, is_on_open_map, nth_action}
use Rattle.fleet_example.proofs.Computed.{longest_by}
use Rattle.fleet_example.proofs.ComputedOrder.{accepted_by_await, accepted_if_awaited}
use Rattle.fleet_example.proofs.programs.staying_pairs_are_accepted.Goals as goal

pub returns-clause-before : goal.returns-clause-before
returns-clause-before c = accepted_if_awaited (is_on_open_map 4 1) 2 late_pair refl

pub returns-clause-before_longest : goal.returns-clause-before_longest
returns-clause-before_longest c = longest_by 2 late_pair (nth_action 0 1) (nth_action 0 2 ∷ nth_action 0 3 ∷ nth_action 1 2 ∷ []) (nth_action 1 2) refl

pub returns-clause-after : goal.returns-clause-after
returns-clause-after c = accepted_by_await (is_on_open_map 4 1) 1 staying_pair refl

pub returns-clause-after_longest : goal.returns-clause-after_longest
returns-clause-after_longest c = longest_by 1 staying_pair (nth_action 0 1) (nth_action 0 2 ∷ nth_action 1 2 ∷ nth_action 1 3 ∷ nth_action 1 4 ∷ []) (nth_action 1 4) refl
