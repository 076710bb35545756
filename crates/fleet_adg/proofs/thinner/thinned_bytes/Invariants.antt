use Rattle.fleet_adg.proofs.Words.{◌++◌, length, flat_map, magic, two_bytes, agent, Adds, AreThinnedAgents}
use Rattle.fleet_adg.proofs.thinner.thinned_bytes.Given as goal

abbrev pub invariant-loop-i : goal.invariant-loop-i
invariant-loop-i g l =
    let p = g.P.ProgramView.program l.program in
    Adds (flat_map (agent l.version)) (AreThinnedAgents p l.i) (magic l.version ++ two_bytes (length p)) l.out.items
