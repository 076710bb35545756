use Rattle.fleet_run.proofs.Words.{◌≡◌, [], drop, arith, drop_all}
use Rattle.fleet_run.proofs.Closing.{trace_joined}
use Rattle.fleet_run.proofs.run.write_trace_closing.Goals as goal

pub returns-clause-written : goal.returns-clause-written
returns-clause-written c =
    let none : drop 100 c.args.row.now ≡ [] = drop_all 100 c.args.row.now (omega arith) in
    trace_joined c.args.agents c.args.ticks c.args.chain c.args.held _ _ _ _ _ none c.write_count_line-at.ensures.written c.write_count_line-at-2.ensures.written c.write_count_line-at-3.ensures.written c.write_count_line.ensures.written
