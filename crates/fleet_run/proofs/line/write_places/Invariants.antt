use Rattle.fleet_run.proofs.Words.{◌*◌, EndsWith, numerals_of}
use Rattle.fleet_run.proofs.line.write_places.Given as goal

abbrev pub invariant-loop-i : goal.invariant-loop-i
invariant-loop-i l = EndsWith (numerals_of l.rows) (2 * l.i) l.at l.row l.begins
