use Rattle.std.proofs.Common.{[], ◌∷◌, refl}
use Rattle.fleet_example.specs.Programs.{pair, nth_action}
use Rattle.fleet_example.proofs.Computed.{level_by, longest_by}
use Rattle.fleet_example.proofs.programs.pair_levels.Goals as goal

pub returns-clause-first_of_0 : goal.returns-clause-first_of_0
returns-clause-first_of_0 c = level_by 1 pair (nth_action 0 1) [] (nth_action 0 1) refl

pub returns-clause-second_of_0 : goal.returns-clause-second_of_0
returns-clause-second_of_0 c = level_by 1 pair (nth_action 0 1) (nth_action 0 2 ∷ []) (nth_action 0 2) refl

pub returns-clause-first_of_1 : goal.returns-clause-first_of_1
returns-clause-first_of_1 c = level_by 1 pair (nth_action 0 1) (nth_action 1 1 ∷ []) (nth_action 1 1) refl

pub returns-clause-second_of_1 : goal.returns-clause-second_of_1
returns-clause-second_of_1 c = level_by 1 pair (nth_action 0 1) (nth_action 0 2 ∷ nth_action 1 2 ∷ []) (nth_action 1 2) refl

pub returns-clause-longest : goal.returns-clause-longest
returns-clause-longest c = longest_by 1 pair (nth_action 0 1) (nth_action 0 2 ∷ nth_action 1 2 ∷ []) (nth_action 1 2) refl
