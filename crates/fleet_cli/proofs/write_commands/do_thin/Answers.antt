use Rattle.std.proofs.Common.{inl, sym}
use Rattle.fleet_cli.proofs.write_commands.do_thin.Goals as goal

pub returns : goal.returns
returns g c =
    let made = rw (c.in_ok-accepted.ensures.kept.0, c.in_ok-accepted.ensures.kept.1) at c.in-Ok.ensures in
    inl ((c.total_awaits-before.result, c.in-Ok.made), (_, _, c.in_ok-accepted.ensures.accepted, (rw (sym c.program.ensures.program) c.total_awaits-before.ensures, made.0, made.2, made.1)), c.write_out.ensures)
