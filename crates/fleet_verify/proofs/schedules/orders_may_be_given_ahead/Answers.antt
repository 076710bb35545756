use Rattle.fleet_verify.proofs.Timed.{ahead_schedule, ahead_in_time}
use Rattle.fleet_verify.proofs.schedules.orders_may_be_given_ahead.Goals as goal

pub returns-clause-schedule : goal.returns-clause-schedule
returns-clause-schedule c = ahead_schedule

pub returns-clause-in_time : goal.returns-clause-in_time
returns-clause-in_time c = ahead_in_time
