use Rattle.std.proofs.Common.{[], refl}
use Rattle.fleet_example.specs.Programs.{late_pair, staying_pair}
use Rattle.fleet_example.proofs.ProgramRuns.{runs_as}
use Rattle.fleet_example.proofs.programs.stays_take_ticks.Goals as goal

pub returns-clause-before : goal.returns-clause-before
returns-clause-before c = runs_as late_pair [] _ 4 0 refl refl refl refl refl refl

pub returns-clause-after : goal.returns-clause-after
returns-clause-after c = runs_as staying_pair [] _ 5 0 refl refl refl refl refl refl
