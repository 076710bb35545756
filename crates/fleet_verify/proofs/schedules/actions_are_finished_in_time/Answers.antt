use Rattle.fleet_verify.proofs.RunsRight.{some_tick, tick_in_time}
use Rattle.fleet_verify.proofs.schedules.actions_are_finished_in_time.Goals as goal

pub returns-clause-finished : goal.returns-clause-finished
returns-clause-finished c = some_tick

pub returns-clause-in_time : goal.returns-clause-in_time
returns-clause-in_time c = tick_in_time
