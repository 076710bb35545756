-- Numbers of a plan: when each agent comes to rest on its goal, how often it changes its cell until then, and how often
-- it waits.
use Rattle.std.specs.Prelude.{ℕ, ◌+◌, ◌-◌, Bool, not, length, count_by, sum_by}
use Rattle.std.specs.List.{suffix_len}
use Rattle.fleet_model.specs.declared.geometry.Cell.{Cell}
use Rattle.fleet_model.specs.Geometry.{is_same_cell}
use Rattle.fleet_model.specs.Machine.{indices}
use Rattle.fleet_plan.specs.Plan.{Path, Plan, cell_at}

-- the cell on which the path ends
abbrev pub end_of : Path → Cell
end_of path = cell_at path (length path - 1)

-- the time from which on the agent stays on its last cell: as many cells of the path come before the last ones that are
-- all that cell
unfoldable pub cost_of : Path → ℕ
cost_of path = length path - suffix_len (is_same_cell (end_of path)) path

-- the agent stays on its cell in the step after time t
abbrev pub stays_in : Path → ℕ → Bool
stays_in path t = is_same_cell (cell_at path t) (cell_at path (t + 1))

-- in how many steps before time t the agent changes its cell
unfoldable pub moves_before : Path → ℕ → ℕ
moves_before path t = count_by (λ s. not (stays_in path s)) (indices t)

-- in how many steps before time t it stays on its cell
unfoldable pub stays_before : Path → ℕ → ℕ
stays_before path t = count_by (stays_in path) (indices t)

-- in how many steps the agent changes its cell
abbrev pub moves_of : Path → ℕ
moves_of path = moves_before path (length path - 1)

-- in how many steps before it has come to rest it stays on its cell
abbrev pub waits_of : Path → ℕ
waits_of path = stays_before path (cost_of path)

-- the sum of costs: the times from which on the agents stay on their last cells
abbrev pub sum_of_costs : Plan → ℕ
sum_of_costs plan = sum_by cost_of plan

-- the changes of cell of all agents
abbrev pub moves_in_plan : Plan → ℕ
moves_in_plan plan = sum_by moves_of plan

-- the waits of all agents
abbrev pub waits_in_plan : Plan → ℕ
waits_in_plan plan = sum_by waits_of plan
