use Rattle.std.proofs.Common.{[], ◌∷◌, refl}
use Rattle.fleet_example.specs.Programs.{nth_action, pair, relay}
use Rattle.fleet_example.specs.Meetings.{tight_relay}
use Rattle.fleet_example.proofs.ComputedThinned.{thinned_by}
use Rattle.fleet_example.proofs.meetings.worked_programs_are_thinned.Goals as goal

pub returns-clause-relay : goal.returns-clause-relay
returns-clause-relay c = thinned_by tight_relay relay 1 (nth_action 1 1) (nth_action 1 1 ∷ []) refl refl

pub returns-clause-pair : goal.returns-clause-pair
returns-clause-pair c = thinned_by pair pair 1 (nth_action 0 1) [] refl refl
