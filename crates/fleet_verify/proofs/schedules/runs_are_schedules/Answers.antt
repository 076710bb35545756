use Rattle.fleet_verify.proofs.Ticked.{is_schedule, shortest, longest, here, next, claimed}
use Rattle.fleet_verify.proofs.schedules.runs_are_schedules.Goals as goal

pub returns-clause-each : goal.returns-clause-each
returns-clause-each c p in_range holds s of = is_schedule p holds s of in_range

pub returns-clause-shortest : goal.returns-clause-shortest
returns-clause-shortest c = shortest

pub returns-clause-longest : goal.returns-clause-longest
returns-clause-longest c = longest

pub returns-clause-here : goal.returns-clause-here
returns-clause-here c = here

pub returns-clause-next : goal.returns-clause-next
returns-clause-next c = next

pub returns-clause-claimed : goal.returns-clause-claimed
returns-clause-claimed c = claimed
