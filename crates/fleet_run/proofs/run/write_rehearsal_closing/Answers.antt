use Rattle.fleet_run.proofs.Words.{◌≡◌, ◌++◌, [], drop, arith, ap, ◌∙◌, drop_all}
use Rattle.fleet_run.proofs.Closing.{closing_joined}
use Rattle.fleet_run.proofs.run.write_rehearsal_closing.Goals as goal

pub returns-clause-written : goal.returns-clause-written
returns-clause-written c =
    let none : drop 100 c.args.row.now ≡ [] = drop_all 100 c.args.row.now (omega arith) in
    closing_joined c.args.agents c.args.ticks c.args.held c.args.end _ _ _ _ _ none
    (c.write_bytes-at.ensures.written ∙ ap (λ x. x ++ drop 100 c.args.row.now) c.last_line.ensures) c.write_count_line-at.ensures.written c.write_count_line-at-2.ensures.written c.write_count_line.ensures.written
