use Rattle.std.proofs.Common.{inl, refl}
use Rattle.fleet_c.specs.declared.answer.TheConstants.{DONE}
use Rattle.fleet_c.proofs.fleet_compile.Goals as goal

pub returns-in-Ok : goal.returns-in-Ok
returns-in-Ok c = inl (c.in-Ok.bytes.items, DONE, (c.in-Ok.ensures.compiled, refl), c.hand_made.ensures, refl)
