use Rattle.std.proofs.Common.{sym}
use Rattle.std.proofs.lemmas.List.{take_rest}
use Rattle.fleet_text.proofs.SpacedLaws.{cut_at, cut_nowhere}
use Rattle.fleet_text.proofs.lines.cut.Goals as goal

pub returns-in-Some-clause-words : goal.returns-in-Some-clause-words
returns-in-Some-clause-words c = rw take_rest (cut_at c.args.line.now c.in-Some.end (sym c.in-Some.ensures)).0

pub returns-in-None-clause-words : goal.returns-in-None-clause-words
returns-in-None-clause-words c = cut_nowhere c.args.line.now (sym c.in-None.ensures)
