use Rattle.fleet_text.specs.Sink.{Takes}
use Rattle.fleet_run.specs.Listing.{texts_below}
use Rattle.fleet_cli.specs.PrintCommands.{task_at}
use Rattle.fleet_cli.proofs.print_commands.put_tasks.Given as goal

abbrev pub invariant-loop-i : goal.invariant-loop-i
invariant-loop-i g l = record {
  written : Takes (g.O.TraceOut.state l.fn.out) (g.O.TraceOut.state l.out) (texts_below (task_at l.instance) l.i);
}
