use Rattle.std.proofs.Common.{rules}
use Rattle.fleet_text.proofs.SinkLemmas.{takes_then, takes_err_then}
use Rattle.fleet_cli.specs.PrintCommands.{instance_text}
use Rattle.fleet_cli.proofs.print_commands.put_instance.Goals as goal

pub returns-in_err-put_line : goal.returns-in_err-put_line
unfolding instance_text
returns-in_err-put_line g c = takes_err_then _ _ _ _ _ (search rules) (rw (c.width.ensures.value, c.height.ensures.value) at c.in_err-put_line.ensures)

pub returns-in_err-put_counts : goal.returns-in_err-put_counts
unfolding instance_text
returns-in_err-put_counts g c =
    takes_then _ _ _ _ _ _ (rw (c.width.ensures.value, c.height.ensures.value) at c.in_ok-put_line.ensures)
    (takes_err_then _ _ _ _ _ (search rules) (rw (c.ground.ensures, c.agents.ensures.count) at c.in_err-put_counts.ensures))

pub returns : goal.returns
unfolding instance_text
returns g c =
    takes_then _ _ _ _ _ _ (rw (c.width.ensures.value, c.height.ensures.value) at c.in_ok-put_line.ensures)
    (takes_then _ _ _ _ _ _ (rw (c.ground.ensures, c.agents.ensures.count) at c.in_ok-put_counts.ensures) c.put_tasks.ensures)
