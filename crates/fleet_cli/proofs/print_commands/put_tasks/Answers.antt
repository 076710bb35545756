use Rattle.std.proofs.Common.{rules, length, arith}
use Rattle.fleet_run.proofs.Rehearsed.{one_text_more, refused_in_text}
use Rattle.fleet_cli.specs.PrintCommands.{task_at, task_line}
use Rattle.fleet_cli.proofs.print_commands.put_tasks.Goals as goal

pub returns-in_err-put_line : goal.returns-in_err-put_line
unfolding task_line
returns-in_err-put_line g c =
    refused_in_text (task_at c.args.instance.now) _ _ _ c.loop-i.i c.loop-i.invariant.written _ (length c.args.instance.now) (omega (arith, c.agents-i-end.ensures.count)) (search rules)
    (rw (c.start-start.ensures, c.goal-goal.ensures) c.in_err-put_line.ensures)

pub loop-i-preserved : goal.loop-i-preserved
unfolding task_line
loop-i-preserved g c = record { written = one_text_more (task_at c.args.instance.now) _ _ _ c.loop-i.i c.loop-i.invariant.written (rw (c.start-start.ensures, c.goal-goal.ensures) c.in_ok-put_line.ensures) }
