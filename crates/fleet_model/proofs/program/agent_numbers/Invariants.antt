use Rattle.std.proofs.Common.{◌≡◌}
use Rattle.fleet_model.specs.Machine.{indices}
use Rattle.fleet_model.proofs.program.agent_numbers.Given as goal

abbrev pub invariant-loop-agent : goal.invariant-loop-agent
invariant-loop-agent l = l.numbers.items ≡ indices l.agent
