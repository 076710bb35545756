use Rattle.fleet_verify.proofs.Levels.{counted_numbers, counted_levels}
use Rattle.fleet_verify.proofs.Ordered.{top_longest}
use Rattle.fleet_verify.proofs.ahead_laws.counted_levels_are_levels.Goals as goal

pub returns-clause-numbering : goal.returns-clause-numbering
returns-clause-numbering c = counted_numbers

pub returns-clause-levels : goal.returns-clause-levels
returns-clause-levels c = counted_levels

pub returns-clause-longest : goal.returns-clause-longest
returns-clause-longest c = top_longest
