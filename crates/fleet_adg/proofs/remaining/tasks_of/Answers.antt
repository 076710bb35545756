use Rattle.fleet_adg.specs.Remaining.{task_of}
use Rattle.fleet_adg.proofs.TasksOf.{task_from_parts, task_more}
use Rattle.fleet_adg.proofs.remaining.tasks_of.Goals as goal

pub loop-i-preserved : goal.loop-i-preserved
loop-i-preserved g c =
    task_more (task_of (g.P.ProgramView.program c.args.program.now)) c.loop-i.i c.loop-i.tasks.items _ _ c.loop-i.invariant c.in_ok-push.ensures.items
    (task_from_parts _ _ c.start-start.ensures c.goal-goal.ensures)
