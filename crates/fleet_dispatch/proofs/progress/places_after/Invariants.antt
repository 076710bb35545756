use Rattle.fleet_dispatch.proofs.Cited.{◌≡◌, ◌<◌, ℕ, length, get_or, Place, path, count_of}
use Rattle.fleet_dispatch.proofs.progress.places_after.Given as goal

abbrev pub invariant-loop-i : goal.invariant-loop-i
invariant-loop-i g l = record {
  long : length l.places.items ≡ l.i;
  there : (j : ℕ) (q : Place) → j < l.i → get_or l.places.items j q ≡ path (g.P.ProgramView.program l.program) j (count_of l.done j);
}
