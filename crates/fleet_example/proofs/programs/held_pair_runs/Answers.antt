use Rattle.fleet_example.proofs.ProgramRuns.{pair_finish}
use Rattle.fleet_example.proofs.programs.held_pair_runs.Goals as goal

pub returns-clause-finish : goal.returns-clause-finish
returns-clause-finish c = pair_finish
