use Rattle.fleet_code.proofs.RoundTrip.{spells_own}
use Rattle.fleet_code.proofs.Versions.{no_other}
use Rattle.fleet_code.proofs.laws.spelled_programs_are_read_again.Goals as goal

pub returns-clause-own : goal.returns-clause-own
returns-clause-own c = spells_own

pub returns-clause-no_other : goal.returns-clause-no_other
returns-clause-no_other c = no_other
