use Rattle.std.proofs.Common.{inl}
use Rattle.fleet_cli.proofs.print_commands.do_times.Goals as goal

pub returns-in-None : goal.returns-in-None
returns-in-None g c = inl (_, _, c.in_ok-accepted.ensures.accepted, rw c.in-None.is (rw c.deref.ensures.value at c.tell_times.ensures))

pub returns : goal.returns
returns g c = inl (_, _, c.in_ok-accepted.ensures.accepted, rw c.in-Some.is (rw c.as_bytes.ensures.value at c.tell_reached.ensures))
