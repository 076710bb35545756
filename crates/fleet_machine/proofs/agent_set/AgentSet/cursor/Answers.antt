use Rattle.std.proofs.Common.{arith}
use Rattle.fleet_machine.proofs.Onward.{cursor_at_first}
use Rattle.fleet_machine.proofs.agent_set.AgentSet.cursor.Goals as goal

pub returns-clause-cursor : goal.returns-clause-cursor
returns-clause-cursor c =
    rw (← c.self.view_is) (cursor_at_first c.self.inside.words c.self.inside.agents c.self.invariant.bits (omega arith))
