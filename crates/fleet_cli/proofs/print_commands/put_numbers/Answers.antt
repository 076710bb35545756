use Rattle.std.proofs.Common.{rules}
use Rattle.fleet_text.proofs.SinkLemmas.{takes_then, takes_err_then}
use Rattle.fleet_cli.proofs.print_commands.put_numbers.Goals as goal

pub returns-in_err-put_report : goal.returns-in_err-put_report
returns-in_err-put_report g c =
    takes_err_then _ _ _ _ _ (search rules) (rw (c.agents.ensures.count, c.steps.ensures.time, c.sum_of_costs.ensures, c.moves.ensures, c.waits.ensures) at c.in_err-put_report.ensures)

pub returns : goal.returns
returns g c =
    takes_then _ _ _ _ _ _ (rw (c.agents.ensures.count, c.steps.ensures.time, c.sum_of_costs.ensures, c.moves.ensures, c.waits.ensures) at c.in_ok-put_report.ensures) c.put_apart.ensures
