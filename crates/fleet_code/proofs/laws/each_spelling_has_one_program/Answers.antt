use Rattle.fleet_code.proofs.Versions.{one_spelling, one_program_each}
use Rattle.fleet_code.proofs.laws.each_spelling_has_one_program.Goals as goal

pub returns-clause-spelling : goal.returns-clause-spelling
returns-clause-spelling c = one_spelling

pub returns-clause-program : goal.returns-clause-program
returns-clause-program c = one_program_each
