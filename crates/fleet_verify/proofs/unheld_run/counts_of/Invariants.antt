use Rattle.fleet_verify.proofs.Words.{◌≡◌, take, counts_of}
use Rattle.fleet_verify.proofs.unheld_run.counts_of.Given as goal

abbrev pub invariant-loop-agent : goal.invariant-loop-agent
invariant-loop-agent l = l.counts.items ≡ counts_of (take l.agent-index l.agents)
