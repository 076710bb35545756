use Rattle.fleet_code.proofs.Versions.{program_or_fault, not_both, one_fault}
use Rattle.fleet_code.proofs.laws.bytes_are_a_program_or_have_a_first_fault.Goals as goal

pub returns-clause-either : goal.returns-clause-either
returns-clause-either c = program_or_fault

pub returns-clause-not_both : goal.returns-clause-not_both
returns-clause-not_both c = not_both

pub returns-clause-one : goal.returns-clause-one
returns-clause-one c = one_fault
