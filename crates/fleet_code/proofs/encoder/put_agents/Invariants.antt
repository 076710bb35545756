use Rattle.fleet_code.proofs.Words.{◌≡◌, ◌++◌, take, flat_map, agent}
use Rattle.fleet_code.proofs.encoder.put_agents.Given as goal

abbrev pub invariant-loop-agent : goal.invariant-loop-agent
invariant-loop-agent l = l.out.items ≡ l.fn.out.items ++ flat_map (agent l.version) (take l.agent-index l.agents)
