use Rattle.fleet_search.proofs.Words.{arith, both_ways}
use Rattle.fleet_search.proofs.IntervalLaws.{first-none}
use Rattle.fleet_search.proofs.intervals.earliest_within.Goals as goal

pub returns-else-is_in_interval-clause-none : goal.returns-else-is_in_interval-clause-none
returns-else-is_in_interval-clause-none c =
    first-none c.args.occupancies.now c.requires.order c.args.interval c.args.from c.in_ok-time.time c.requires.bound (omega arith) c.in_ok-time.ensures.past c.in_ok-time.ensures.first (λ g. both_ways c.is_in_interval.result c.if-is_in_interval.false (c.is_in_interval.ensures.1 g))

pub returns-in_err-time-clause-none : goal.returns-in_err-time-clause-none
returns-in_err-time-clause-none c = rw c.from_residual.ensures (λ s h g. c.in_err-time.ensures.none s g)
