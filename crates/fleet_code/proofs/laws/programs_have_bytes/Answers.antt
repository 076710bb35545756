use Rattle.fleet_code.proofs.Written.{can_spell_second}
use Rattle.fleet_code.proofs.laws.programs_have_bytes.Goals as goal

pub returns-clause-second : goal.returns-clause-second
returns-clause-second c = can_spell_second
