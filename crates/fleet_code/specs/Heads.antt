-- What is read before the agents of a program, and before the actions of an agent.
use Rattle.std.specs.Prelude.{ℕ, ◌+◌, ◌||◌, ◌==◌, nat_lt, List, Ok}
use Rattle.fleet_model.specs.declared.limits.TheConstants.{MAX_AGENTS, MAX_MOVES_IN_ALL}
use Rattle.fleet_model.specs.declared.geometry.Cell.{Cell}
use Rattle.fleet_text.specs.Steps.{◌>>=◌, ◌>>◌, fault_if}
use Rattle.fleet_code.specs.declared.fault.LoadFault.TheVariants.{AgentCount, Total}
use Rattle.fleet_code.specs.declared.format.Version.{Version}
use Rattle.fleet_code.specs.Spelling.{most_moves}
use Rattle.fleet_code.specs.Reading.{Field, magic_at, number_at, count_from, cell_from}

-- how many agents there are, after the magic
unfoldable pub head_at : Version → List ℕ → Field ℕ
head_at v bytes = do
  rest ← magic_at v bytes
  n ← number_at rest
  fault_if (n.0 == 0 || nat_lt MAX_AGENTS n.0) AgentCount
  Ok n

-- the start and the goal of an agent, and how many actions it has, if those before it have total actions together
unfoldable pub agent_head_at : (v : Version) (total : ℕ) → List ℕ → Field (Cell × Cell × ℕ)
agent_head_at v total bytes = do
  start ← cell_from bytes
  goal ← cell_from start.1
  count ← count_from v goal.1
  fault_if (nat_lt (most_moves v) count.0 || nat_lt MAX_MOVES_IN_ALL (total + count.0)) Total
  Ok ((start.0, goal.0, count.0), count.1)
