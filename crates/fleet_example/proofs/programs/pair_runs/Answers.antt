use Rattle.std.proofs.Common.{[], ◌∷◌, refl}
use Rattle.fleet_example.specs.Programs.{pair}
use Rattle.fleet_example.proofs.ProgramRuns.{runs_as}
use Rattle.fleet_example.proofs.programs.pair_runs.Goals as goal

pub returns-clause-nobody_held : goal.returns-clause-nobody_held
returns-clause-nobody_held c = runs_as pair [] _ 3 0 refl refl refl refl refl refl

pub returns-clause-waiting_agent_held : goal.returns-clause-waiting_agent_held
returns-clause-waiting_agent_held c = runs_as pair ((1 ∷ []) ∷ []) _ 3 0 refl refl refl refl refl refl

pub returns-clause-ready_agent_held : goal.returns-clause-ready_agent_held
returns-clause-ready_agent_held c = runs_as pair ((0 ∷ []) ∷ []) _ 4 1 refl refl refl refl refl refl
