use Rattle.std.proofs.{Common.arith, lemmas.Grind.common_steps}
use Rattle.fleet_needs.proofs.counts.Counts.zeros.Goals as goal

pub returns : goal.returns
returns c = grind (arith, common_steps)

pub returns-then-is_narrow : goal.returns-then-is_narrow
returns-then-is_narrow c = grind (arith, common_steps)
