use Rattle.std.proofs.Common.{inl}
use Rattle.fleet_cli.proofs.print_commands.tell_reached.Goals as goal

pub returns : goal.returns
returns g c =
    let printed = rw (c.deref-3.ensures.value, c.total_moves.ensures, c.stopped_agents-stopped.ensures, c.deref-2.ensures.value, c.program-program.ensures.program) at (c.hand_on.ensures _ _ c.put_reached-printed.ensures) in
    let named = rw c.program-program.ensures.program at c.in-Ok.ensures.named in
    inl (_, _, named, rw c.deref.ensures.value at c.in_ok-counts.ensures.reached, rw c.deref.ensures.value at c.in_ok-counts.ensures.stops, printed)
