use Rattle.std.proofs.Common.{◌≡◌, true, sym, refl, subst}
use Rattle.fleet_model.specs.Machine.{Configuration, is_stuck}
use Rattle.fleet_example.specs.Programs.{deadlock}
use Rattle.fleet_example.proofs.ProgramRuns.{deadlock_stands}
use Rattle.fleet_example.proofs.programs.deadlock_is_stuck.Goals as goal

pub returns-clause-stuck : goal.returns-clause-stuck
returns-clause-stuck c holds t = subst (λ (d : Configuration). is_stuck deadlock d ≡ true) (sym (deadlock_stands holds t)) refl
