use Rattle.fleet_run.proofs.Words.{◌≡◌, ◌++◌, drop, rules, numeral, numeral_text}
use Rattle.fleet_run.proofs.Lines.{ends_before}
use Rattle.fleet_run.proofs.line.write_numeral.Goals as goal

pub returns-clause-written : goal.returns-clause-written
returns-clause-written c =
    λ ns there before.
    let n = numeral c.args.separator c.args.value in
    let written : drop c.write_separated-begin.result c.write_separated-begin.new.row ≡ numeral_text n ++ drop c.args.end c.args.row.now = search (rules, c.write_separated-begin.ensures.written) in
    ends_before ns c.args.at n c.args.row.now c.write_separated-begin.new.row c.args.begins.now c.write_separated-begin.result c.args.end there before
    c.requires.begins written c.write_separated-begin.auto.row c.write_separated-begin.ensures.high c.write_separated-begin.ensures.low
