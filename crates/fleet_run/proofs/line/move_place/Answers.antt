use Rattle.fleet_run.proofs.Words.{◌≡◌, ◌≢◌, rules, numerals_of}
use Rattle.fleet_run.proofs.Lines.{column_numeral, column_written, in_column_if, in_row_if, row_numeral, row_written}
use Rattle.fleet_run.proofs.line.move_place.Goals as goal

pub change_numeral-requires : goal.change_numeral-requires
change_numeral-requires c =
    let d = c.requires.kept.0 in
    let other : c.args.old.y ≢ c.args.new.y = λ e. c.if-is_other_row.true (rw e search rules) in
    record {
      kept = (numerals_of d, c.requires.kept.1, search (rules, row_numeral d c.args.i c.args.old c.requires.kept.2 c.requires.kept.3));
      close = search (rules, (in_column_if c.args.old c.args.new c.requires.beside other).1);
    }

pub returns-then-is_other_row-clause-kept : goal.returns-then-is_other_row-clause-kept
returns-then-is_other_row-clause-kept c =
    λ few d kept agent here s there.
    let other : c.args.old.y ≢ c.args.new.y = λ e. c.if-is_other_row.true (rw e search rules) in
    let column = in_column_if c.args.old c.args.new c.requires.beside other in
    let written = c.change_numeral.ensures.kept few (numerals_of d) kept (search (rules, row_numeral d c.args.i c.args.old agent here)) in
    row_written d c.args.i c.args.old c.args.new s c.change_numeral.new.row c.change_numeral.new.begins agent here there column.0 (search (rules, written))

pub change_numeral-requires-2 : goal.change_numeral-requires-2
change_numeral-requires-2 c =
    let d = c.requires.kept.0 in
    let same : c.args.old.y ≡ c.args.new.y = search rules in
    record {
      kept = (numerals_of d, c.requires.kept.1, search (rules, column_numeral d c.args.i c.args.old c.requires.kept.2 c.requires.kept.3));
      close = search (rules, in_row_if c.args.old c.args.new c.requires.beside same);
    }

pub returns-clause-kept : goal.returns-clause-kept
returns-clause-kept c =
    λ few d kept agent here s there.
    let same : c.args.old.y ≡ c.args.new.y = search rules in
    let written = c.change_numeral-2.ensures.kept few (numerals_of d) kept (search (rules, column_numeral d c.args.i c.args.old agent here)) in
    column_written d c.args.i c.args.old c.args.new s c.change_numeral-2.new.row c.change_numeral-2.new.begins agent here there same (search (rules, written))
