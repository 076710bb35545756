use Rattle.std.proofs.Common.{false, [], ◌∷◌, refl}
use Rattle.fleet_example.specs.Compiled.{corridor_program}
use Rattle.fleet_example.specs.Programs.{await_on, pair, late_pair, relay}
use Rattle.fleet_example.specs.Schedules.{lasts, schedule_with, cost_of}
use Rattle.fleet_example.proofs.ComputedSchedules.{soonest_by}
use Rattle.fleet_example.proofs.schedules.worked_schedules_are_soonest.Goals as goal

pub returns-clause-pair : goal.returns-clause-pair
returns-clause-pair c = soonest_by pair (λ _. false) (cost_of ((3 ∷ 1 ∷ []) ∷ (2 ∷ 2 ∷ []) ∷ [])) (schedule_with ((lasts 0 3 ∷ lasts 3 4 ∷ []) ∷ (lasts 3 5 ∷ lasts 5 7 ∷ []) ∷ [])) refl

pub returns-clause-corridor : goal.returns-clause-corridor
returns-clause-corridor c = soonest_by (corridor_program (await_on 1 2 ∷ [])) (λ _. false) (cost_of ((2 ∷ 5 ∷ []) ∷ (1 ∷ 1 ∷ []) ∷ (4 ∷ 1 ∷ []) ∷ [])) (schedule_with ((lasts 0 2 ∷ lasts 2 7 ∷ []) ∷ (lasts 2 3 ∷ lasts 7 8 ∷ []) ∷ (lasts 3 7 ∷ lasts 8 9 ∷ []) ∷ [])) refl

pub returns-clause-relay : goal.returns-clause-relay
returns-clause-relay c = soonest_by relay (λ _. false) (cost_of ((4 ∷ []) ∷ (1 ∷ []) ∷ (2 ∷ []) ∷ [])) (schedule_with ((lasts 0 4 ∷ []) ∷ (lasts 4 5 ∷ []) ∷ (lasts 5 7 ∷ []) ∷ [])) refl

pub returns-clause-stay : goal.returns-clause-stay
returns-clause-stay c = soonest_by late_pair (λ _. false) (cost_of ((5 ∷ 1 ∷ 1 ∷ []) ∷ (1 ∷ 3 ∷ []) ∷ [])) (schedule_with ((lasts 0 5 ∷ lasts 5 6 ∷ lasts 6 7 ∷ []) ∷ (lasts 6 7 ∷ lasts 7 10 ∷ []) ∷ [])) refl
