use Rattle.std.proofs.Common.{[], refl}
use Rattle.fleet_example.specs.Programs.{relay}
use Rattle.fleet_example.proofs.ProgramRuns.{runs_as}
use Rattle.fleet_example.proofs.programs.relay_runs.Goals as goal

pub returns : goal.returns
returns c = runs_as relay [] _ 3 0 refl refl refl refl refl refl
