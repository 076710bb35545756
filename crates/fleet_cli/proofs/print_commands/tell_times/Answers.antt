use Rattle.std.proofs.Common.{inl, refl}
use Rattle.fleet_cli.proofs.print_commands.tell_times.Goals as goal

pub returns-in_default : goal.returns-in_default
returns-in_default g c =
    let told = rw (c.in_ok-times.ensures.program, c.total_moves-moves.ensures, c.program-program.ensures.program) at c.tell_timetable.ensures in
    rw c.in_default.is (inl (_, (λ a. refl), told))

pub returns : goal.returns
returns g c =
    let told = rw (c.in_ok-times-2.ensures.program, c.in_ok-times-2.ensures.costs, c.total_moves-moves.ensures, c.program-program.ensures.program) at c.tell_timetable-2.ensures in
    rw c.in-Some.is (inl (_, rw c.program-program.ensures.program at c.in-Ok.ensures.costs, told))
