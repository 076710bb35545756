use Rattle.std.proofs.Common.{[], ◌∷◌, refl}
use Rattle.fleet_example.specs.Programs.{relay, nth_action}
use Rattle.fleet_example.proofs.Computed.{level_by, longest_by}
use Rattle.fleet_example.proofs.programs.relay_levels.Goals as goal

pub returns-clause-of_0 : goal.returns-clause-of_0
returns-clause-of_0 c = level_by 1 relay (nth_action 0 1) [] (nth_action 0 1) refl

pub returns-clause-of_1 : goal.returns-clause-of_1
returns-clause-of_1 c = level_by 1 relay (nth_action 0 1) (nth_action 1 1 ∷ []) (nth_action 1 1) refl

pub returns-clause-of_2 : goal.returns-clause-of_2
returns-clause-of_2 c = level_by 1 relay (nth_action 0 1) (nth_action 1 1 ∷ nth_action 2 1 ∷ []) (nth_action 2 1) refl

pub returns-clause-longest : goal.returns-clause-longest
returns-clause-longest c = longest_by 1 relay (nth_action 0 1) (nth_action 1 1 ∷ nth_action 2 1 ∷ []) (nth_action 2 1) refl
