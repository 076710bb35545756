use Rattle.fleet_adg.proofs.Words.{[], arith, is_passable}
use Rattle.fleet_adg.proofs.TasksOf.{tasks_are, ends_passable, instance}
use Rattle.fleet_adg.proofs.remaining.accepted_tasks_are_an_instance.Goals as goal

pub returns-clause-tasks : goal.returns-clause-tasks
returns-clause-tasks c = λ g tasks p ok. tasks_are tasks p ok.right.for_tasks

pub returns-clause-ends : goal.returns-clause-ends
returns-clause-ends c = λ g tasks p ok. ends_passable g tasks p ok.right

pub returns-clause-instance : goal.returns-clause-instance
returns-clause-instance c = λ g tasks p formed ok.
    let passable = is_passable g in
    let safe = c.runs_are_safe.ensures passable tasks p ok [] in
    let long = c.runs_arrive.ensures.chain passable tasks p ok in
    let finish = c.runs_arrive.ensures.finish passable tasks p ok [] in
    let arrives = c.runs_arrive.ensures.arrive passable tasks p ok [] long.0 finish.0 long.1 finish.1 in
    instance g tasks p ok.right formed safe finish.0 (λ i h. arrives.on_goal finish.0 i (omega arith) h)
