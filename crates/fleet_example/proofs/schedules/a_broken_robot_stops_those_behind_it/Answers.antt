use Rattle.std.proofs.Common.{[], ◌∷◌, refl}
use Rattle.fleet_example.specs.Compiled.{corridor_program}
use Rattle.fleet_example.specs.Programs.{await_on, nth_action}
use Rattle.fleet_example.specs.Schedules.{lasts, stalls_from, stopped, schedule_with, cost_of, is_second_of}
use Rattle.fleet_example.proofs.ComputedSchedules.{soonest_by, stops_by}
use Rattle.fleet_example.proofs.schedules.a_broken_robot_stops_those_behind_it.Goals as goal

pub returns-clause-schedule : goal.returns-clause-schedule
returns-clause-schedule c = soonest_by (corridor_program (await_on 1 2 ∷ [])) (is_second_of 1) (cost_of ((2 ∷ 5 ∷ []) ∷ (1 ∷ 1 ∷ []) ∷ (4 ∷ 1 ∷ []) ∷ [])) (schedule_with ((lasts 0 2 ∷ lasts 2 7 ∷ []) ∷ (lasts 2 3 ∷ stalls_from 7 ∷ []) ∷ (lasts 3 7 ∷ stopped ∷ []) ∷ [])) refl

pub returns-clause-always : goal.returns-clause-always
returns-clause-always c = stops_by (corridor_program (await_on 1 2 ∷ [])) (nth_action 1 2) (nth_action 2 2 ∷ []) (nth_action 2 2) refl
