-- The rest of a program: what its agents have left to do, as a program of its own.
use Rattle.std.specs.Prelude.{◌≡◌, ℕ, ◌+◌, ◌-◌, ◌<◌, ℤ, pos, negsuc, not, List, length, map, drop, filter}
use Rattle.fleet_model.specs.declared.geometry.Cell.{Cell}
use Rattle.fleet_model.specs.declared.program.Await.{Await}
use Rattle.fleet_model.specs.declared.program.Action.{Action}
use Rattle.fleet_model.specs.declared.program.AgentProgram.{AgentProgram}
use Rattle.fleet_model.specs.declared.task.Task.{Task}
use Rattle.fleet_model.specs.Geometry.{place_of}
use Rattle.fleet_model.specs.Program.{Program, goal_of, actions_of}
use Rattle.fleet_model.specs.Machine.{Configuration, Holds, run, place_at, count_at, is_met, indices}

-- the cells are those on which the agents stand
abbrev pub StandOn : Program → Configuration → (ℕ → Cell) → Type 0
StandOn p c cells = (i : ℕ) → i < length p → place_of (cells i) ≡ place_at c i

-- the natural number that an integer is, or 0 if it is negative
abbrev pub natural : ℤ → ℕ
natural (pos n) = n
natural (negsuc n) = 0

-- the cell on which agent i stands. Off every map it may be another one
abbrev pub cell_at : Configuration → ℕ → Cell
cell_at c i = record { x = natural (place_at c i).x; y = natural (place_at c i).y }

-- an await of the rest counts from what the awaited agent has finished
abbrev pub rest_await : Configuration → Await → Await
rest_await c w = record { agent = w.agent; count = w.count - count_at c w.agent }

-- the awaits that are not met yet
abbrev pub rest_awaits : Configuration → List Await → List Await
rest_awaits c awaits = map (rest_await c) (filter (λ w. not (is_met c w)) awaits)

-- the same step, with the awaits that are not met yet
abbrev pub rest_action : Configuration → Action → Action
rest_action c a = record { step = a.step; awaits = rest_awaits c a.awaits }

-- agent i from its cell, with the actions that it has not finished
abbrev pub rest_agent : (ℕ → Cell) → Program → Configuration → ℕ → AgentProgram
rest_agent cells p c i = record { start = cells i; goal = goal_of p i; actions = map (rest_action c) (drop (count_at c i) (actions_of p i)) }

-- what is left of the program in a configuration of which the agents stand on these cells
abbrev pub rest : (ℕ → Cell) → Program → Configuration → Program
rest cells p c = map (rest_agent cells p c) (indices (length p))

-- from the cells to the goals
abbrev pub rest_tasks : (ℕ → Cell) → Program → List Task
rest_tasks cells p = map (λ i. record { start = cells i; goal = goal_of p i }) (indices (length p))

-- q goes on as p does from c: where a run of p comes to c, the run of q under the holds that are left has each agent on
-- the same place ever after, and its count is less by what it had finished in c
abbrev pub RunsOn : Program → Configuration → Program → Type 0
RunsOn p c q =
    (holds : Holds) (x : ℕ) → run p holds x ≡ c → (t i : ℕ) → i < length p
    → (place_at (run p holds (x + t)) i ≡ place_at (run q (drop x holds) t) i)
    × (count_at (run p holds (x + t)) i ≡ count_at c i + count_at (run q (drop x holds) t) i)
