use Rattle.fleet_dispatch.proofs.Cited.{◌≡◌, map, path, indices, count_of}
use Rattle.fleet_dispatch.proofs.standing.standings_at.Given as goal

abbrev pub invariant-loop-i : goal.invariant-loop-i
invariant-loop-i g l = l.standings.items ≡ map (λ j. record { place = path (g.P.ProgramView.program l.program) j (count_of l.done j); count = count_of l.done j }) (indices l.i)
