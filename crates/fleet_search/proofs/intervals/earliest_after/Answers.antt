use Rattle.std.proofs.Common.{arith}
use Rattle.fleet_search.proofs.IntervalLaws.{if_none_weaker}
use Rattle.fleet_search.proofs.intervals.earliest_after.Goals as goal

-- however the time after this one is called
pub returns-clause-none : goal.returns-clause-none
returns-clause-none c = if_none_weaker c.earliest_within.result (λ h s l i. h s (omega arith) i) c.earliest_within.ensures.none
