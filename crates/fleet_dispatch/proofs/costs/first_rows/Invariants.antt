use Rattle.fleet_dispatch.proofs.Cited.{◌≡◌, ◌+◌, map, replicate, moves, indices, lists_of}
use Rattle.fleet_dispatch.proofs.costs.first_rows.Given as goal

abbrev pub invariant-loop-i : goal.invariant-loop-i
invariant-loop-i g l = lists_of l.rows.items ≡ map (λ i. replicate (moves (g.P.ProgramView.program l.program) i + 1) 0) (indices l.i)
