use Rattle.fleet_adg.proofs.Words.{refl, Ok}
use Rattle.fleet_adg.proofs.Joined.{read_is}
use Rattle.fleet_adg.proofs.compiler.program_of.Goals as goal

pub returns-in-Ok : goal.returns-in-Ok
returns-in-Ok c = λ p s. read_is p c.in-Ok.program (Ok p) refl (c.in-Ok.ensures.only p s)
