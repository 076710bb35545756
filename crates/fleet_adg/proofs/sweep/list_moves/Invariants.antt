use Rattle.fleet_adg.proofs.Words.{◌≡◌, map, filter, take, changes_in, move_by}
use Rattle.fleet_adg.proofs.sweep.list_moves.Given as goal

abbrev pub invariant-loop-i : goal.invariant-loop-i
invariant-loop-i l = l.moves.items ≡ map (move_by l.plan l.time) (filter (λ i. changes_in l.plan i l.time) (take l.i-index l.agents))
