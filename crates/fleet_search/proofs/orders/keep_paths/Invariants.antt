use Rattle.fleet_search.proofs.Words.{◌≡◌, ℕ, ◌<◌, ◌++◌, [], take, get_or, Fits}
use Rattle.fleet_search.proofs.orders.keep_paths.Given as goal

abbrev pub invariant-loop-kept : goal.invariant-loop-kept
invariant-loop-kept l = record {
  added : l.reserved ≡ l.fn.reserved ++ take l.kept l.paths;
  fit : (i : ℕ) → i < l.kept → Fits (l.fn.reserved ++ take i l.paths) (get_or l.paths i []);
}
