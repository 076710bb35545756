use Rattle.std.proofs.Common.{inl}
use Rattle.fleet_cli.proofs.print_commands.do_plan.Goals as goal

pub returns : goal.returns
returns g c =
    let written = rw (c.deref.ensures.value, c.in_ok-text.ensures, c.plan.ensures.value) at c.put_all-printed.ensures in
    inl (_, _, c.in_ok-found.ensures.planned, c.hand_on.ensures _ _ written)
