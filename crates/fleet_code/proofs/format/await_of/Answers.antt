use Rattle.std.proofs.Common.{arith}
use Rattle.fleet_code.proofs.format.await_of.Goals as goal

pub returns-clause-long : goal.returns-clause-long
returns-clause-long c = omega (arith, c.in_ok-agent.ensures.long, c.in_ok-count.ensures.long)
