use Rattle.std.proofs.Common.{ap, inl}
use Rattle.fleet_code.specs.Offsets.{Viewed}
use Rattle.fleet_cli.proofs.print_commands.do_verify.Goals as goal

pub returns : goal.returns
returns g c =
    let same = ap (λ (w : Viewed). w.program) c.in-Ok.ensures.kept.0 in
    inl (
      c.in-Ok.accepted.program.program,
      _,
      record { spelled = rw same c.in_ok-program.ensures.spelled; accepted_for = rw same c.in-Ok.ensures.accepted },
      rw (c.agents.ensures.count, c.total_moves.ensures, c.total_awaits.ensures, c.chain.ensures.chain, c.program-program.ensures.program) at (c.hand_on.ensures _ _ c.put_report-printed.ensures),
    )
