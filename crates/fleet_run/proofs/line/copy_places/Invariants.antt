use Rattle.std.proofs.Common.{◌≡◌, length}
use Rattle.fleet_run.proofs.Lines.{ArePlacesTo}
use Rattle.fleet_run.proofs.line.copy_places.Given as goal

abbrev pub invariant-loop-i : goal.invariant-loop-i
invariant-loop-i l = record {
  long : length l.places ≡ length l.rows;
  copied : ArePlacesTo l.rows l.places l.i;
}
