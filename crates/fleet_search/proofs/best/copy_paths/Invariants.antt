use Rattle.std.proofs.Common.{◌≡◌, take}
use Rattle.fleet_search.proofs.best.copy_paths.Given as goal

abbrev pub invariant-loop-path : goal.invariant-loop-path
invariant-loop-path l = l.copy.items ≡ take l.path-index l.paths
