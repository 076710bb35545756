use Rattle.std.proofs.Common.{inl}
use Rattle.fleet_cli.proofs.run_commands.do_run.Goals as goal

pub returns : goal.returns
returns g c = inl (_, _, c.in_ok-accepted.ensures.accepted, rw c.deref.ensures.value at c.run_flushed.ensures)
