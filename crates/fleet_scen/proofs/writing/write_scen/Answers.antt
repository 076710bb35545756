use Rattle.std.specs.Prelude.{codes}
use Rattle.fleet_scen.specs.ScenWriting.{task_line}
use Rattle.fleet_scen.proofs.Written.{task_more}
use Rattle.fleet_scen.proofs.writing.write_scen.Goals as goal

pub loop-task-preserved : goal.loop-task-preserved
loop-task-preserved c = task_more (task_line c.args.width c.args.height) (codes "version 1") c.loop-task.text.items c.put_task.new.text.items c.args.tasks.now c.loop-task.task-index _ c.loop-task-test.true c.loop-task.invariant c.in_ok-put_task.ensures
