use Rattle.fleet_adg.proofs.Words.{◌≡◌, map, indices, cell_at, rest_agent}
use Rattle.fleet_adg.proofs.remaining.rest_agents.Given as goal

abbrev pub invariant-loop-i : goal.invariant-loop-i
invariant-loop-i g l = record { made : l.agents.items ≡ map (rest_agent (cell_at l.standings) (g.P.ProgramView.program l.program) l.standings) (indices l.i) }
