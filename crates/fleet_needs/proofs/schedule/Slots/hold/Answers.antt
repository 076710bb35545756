use Rattle.std.proofs.{Common.arith, lemmas.Grind.common_steps}
use Rattle.fleet_needs.proofs.schedule.Slots.hold.Goals as goal

pub returns : goal.returns
returns c = grind (arith, common_steps)

pub returns-then-eq : goal.returns-then-eq
returns-then-eq c = grind (arith, common_steps)
