use Rattle.std.proofs.Common.{inl}
use Rattle.fleet_cli.proofs.print_commands.tell_timetable.Goals as goal

pub returns : goal.returns
returns g c =
    let printed = rw (c.deref.ensures.value, c.deref-2.ensures.value) at (c.hand_on.ensures _ _ c.put_times-printed.ensures) in
    inl (_, _, _, c.in_ok-arrivals.ensures, c.last_arrival.ensures, c.in_ok-path.ensures, printed)
