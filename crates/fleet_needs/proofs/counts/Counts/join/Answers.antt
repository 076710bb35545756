use Rattle.std.proofs.{Common.arith, lemmas.Grind.common_steps}
use Rattle.fleet_needs.proofs.counts.Counts.join.Goals as goal

pub returns-in-Narrow : goal.returns-in-Narrow
returns-in-Narrow c = grind (arith, common_steps)

pub returns-in-Wide : goal.returns-in-Wide
returns-in-Wide c = grind (arith, common_steps)
