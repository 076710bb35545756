use Rattle.std.proofs.Common.{◌≡◌, sym}
use Rattle.fleet_verify.specs.Rest.{cell_at, rest_tasks}
use Rattle.fleet_adg.specs.Remaining.{tasks_of}
use Rattle.fleet_cli.proofs.write_commands.program_left.Goals as goal

pub returns-clause-left : goal.returns-clause-left
returns-clause-left c =
    let made = rw (c.deref-2.ensures.value, c.in_ok-accepted.ensures.kept.0) at c.in_ok-program.ensures in
    let after = rw (c.program.ensures.program, c.deref.ensures.value) at c.in-Ok.ensures.stand in
    let same : rest_tasks (cell_at c.in-Ok.made.items) c.in_ok-accepted.accepted.program.program ≡ tasks_of c.in_ok-program.program = c.accepted_tasks_are_an_instance.ensures.tasks c.args.problem.now.grid _ c.in_ok-program.program made.accepted in
    (_, _, c.in_ok-accepted.ensures.accepted, record { left = record { standings = c.in-Ok.made.items; after = after; cells = made.stand; is = made.rest; runs_on = made.runs_on }; tasks = sym same; accepted = rw same at made.accepted })
