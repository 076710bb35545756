use Rattle.fleet_adg.proofs.Words.{◌≡◌, [], replicate, written}
use Rattle.fleet_adg.proofs.sweep.empty_lists.Given as goal

abbrev pub invariant-loop-i : goal.invariant-loop-i
invariant-loop-i l = l.lists.items ≡ replicate l.i (written l.version [])
