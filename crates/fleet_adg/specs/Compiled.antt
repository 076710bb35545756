-- The program of a plan: the actions of an agent are its changes of cell, in order, and each awaits earlier leavings of
-- the cell that it enters.
use Rattle.std.specs.Prelude.{◌≡◌, ◌≢◌, ◌<◌, ◌*◌, IsTrue, IsFalse, ℕ, zero, suc, ◌+◌, Bool, not, ◌&&◌, ◌==◌, nat_lt, nat_le, if◌then◌else◌, List, [], length, map, filter, filter_map, replicate, ◌++◌, Option, Some, None, option_map, option_and_then, option_to_list, is_some, sum_by, Result, Ok, Err}
use Rattle.fleet_model.specs.declared.geometry.Cell.{Cell}
use Rattle.fleet_model.specs.declared.geometry.Dir.{Dir}
use Rattle.fleet_model.specs.declared.geometry.Dir.TheVariants.{North, East, South, West}
use Rattle.std.specs.List.{list_all}
use Rattle.fleet_model.specs.declared.geometry.Step.TheVariants.{Go, Dwell}
use Rattle.fleet_model.specs.declared.program.Await.{Await}
use Rattle.fleet_model.specs.declared.program.Action.{Action}
use Rattle.fleet_model.specs.declared.program.AgentProgram.{AgentProgram}
use Rattle.fleet_model.specs.declared.deps.Deps.{Deps}
use Rattle.fleet_adg.specs.declared.fault.CompileFault.{CompileFault}
use Rattle.fleet_adg.specs.declared.fault.CompileFault.TheVariants.{TooLong}
use Rattle.fleet_model.specs.declared.limits.TheConstants.{MAX_MOVES, MAX_MOVES_IN_ALL}
use Rattle.fleet_model.specs.Geometry.{is_same_cell}
use Rattle.fleet_model.specs.Program.{Program}
use Rattle.fleet_model.specs.Machine.{indices}
use Rattle.fleet_plan.specs.Plan.{Plan, cell_of, steps}

-- the direction from a cell to one of its neighbours (of other pairs of cells nothing is meant)
unfoldable pub direction : Cell → Cell → Dir
direction c d = if nat_lt d.y c.y then North else if nat_lt c.x d.x then East else if nat_lt c.y d.y then South else West

-- agent i changes its cell in step x
unfoldable pub changes_in : Plan → ℕ → ℕ → Bool
changes_in plan i x = not (is_same_cell (cell_of plan i x) (cell_of plan i (x + 1)))

-- the steps before time t in which agent i changes its cell
unfoldable pub changes : Plan → ℕ → ℕ → List ℕ
changes plan i t = filter (changes_in plan i) (indices t)

-- how many moves agent i has made at time t
unfoldable pub moves_by : Plan → ℕ → ℕ → ℕ
moves_by plan i t = length (changes plan i t)

-- agent j leaves the cell q in step y
unfoldable pub leaves : Plan → Cell → ℕ → ℕ → Bool
leaves plan q y j = is_same_cell (cell_of plan j y) q && changes_in plan j y

-- to wait for the move that agent j makes in step y
unfoldable pub await_of : Plan → ℕ → ℕ → Await
await_of plan y j = record { agent = j; count = moves_by plan j (y + 1) }

-- the greatest number below n that passes the test
unfoldable pub last_below : (ℕ → Bool) → ℕ → Option ℕ
last_below test zero = None
last_below test (suc k) = if test k then Some k else last_below test k

-- the agent that leaves q in step y
unfoldable pub leaver : Plan → Cell → ℕ → Option ℕ
leaver plan q y = last_below (leaves plan q y) (length plan)

-- the last leaving of q in a step before time t, by agent j
unfoldable pub last_leaving_by : Plan → Cell → ℕ → ℕ → Option Await
last_leaving_by plan q t j = option_map (λ y. await_of plan y j) (last_below (λ y. leaves plan q y j) t)

-- the last leaving of q in a step before time t, by whichever agent: that of the latest visit
unfoldable pub last_leaving : Plan → Cell → ℕ → Option Await
last_leaving plan q t = option_and_then (λ y. option_map (await_of plan y) (leaver plan q y)) (last_below (λ y. is_some (leaver plan q y)) t)

-- the leavings of q before time t that an action awaits, if it is not the agent's own
unfoldable pub leavings : Plan → Deps → Cell → ℕ → List Await
leavings plan Deps.All q t = filter_map (last_leaving_by plan q t) (indices (length plan))
leavings plan Deps.Last q t = option_to_list (last_leaving plan q t)

-- the awaits of the action of agent i in step x: leavings, by other agents, of the cell that it enters
unfoldable pub entry_awaits : Plan → Deps → ℕ → ℕ → List Await
entry_awaits plan deps i x = filter (λ w. not (w.agent == i)) (leavings plan deps (cell_of plan i (x + 1)) (x + 1))

-- the action of agent i in step x
unfoldable pub action_in : Plan → Deps → ℕ → ℕ → Action
action_in plan deps i x = record { step = Go (direction (cell_of plan i x) (cell_of plan i (x + 1))); awaits = entry_awaits plan deps i x }

-- the program of agent i: from its first cell to its last, an action for each change of cell
unfoldable pub agent_program : Plan → Deps → ℕ → AgentProgram
agent_program plan deps i = record { start = cell_of plan i 0; goal = cell_of plan i (steps plan); actions = map (action_in plan deps i) (changes plan i (steps plan)) }

-- the program of a plan
unfoldable pub compiled : Plan → Deps → Program
compiled plan deps = map (agent_program plan deps) (indices (length plan))

-- how many moves all agents make
unfoldable pub moves_in_all : Plan → ℕ
moves_in_all plan = sum_by (λ i. moves_by plan i (steps plan)) (indices (length plan))

-- the program of a plan, if all agents together make few enough moves
abbrev pub compiled_if_few : Plan → Deps → Result Program CompileFault
compiled_if_few plan deps = if nat_le (moves_in_all plan) MAX_MOVES_IN_ALL then Ok (compiled plan deps) else Err TooLong

-- a stay that awaits nobody
abbrev pub stay : Action
stay = record { step = Dwell; awaits = [] }

-- the agent, which stays so often after all that it does
abbrev pub with_stays : ℕ → AgentProgram → AgentProgram
with_stays n a = record { start = a.start; goal = a.goal; actions = a.actions ++ replicate n stay }

-- the program of a plan, in which each agent stays so often after its moves, also one that makes no move
abbrev pub compiled_staying : Plan → Deps → ℕ → Program
compiled_staying plan deps stays = map (with_stays stays) (compiled plan deps)

-- no agent has too many actions then
abbrev pub each_has_few : Plan → ℕ → Bool
each_has_few plan stays = list_all (λ i. nat_le (moves_by plan i (steps plan) + stays) MAX_MOVES) (indices (length plan))

-- all agents together do not have too many then
abbrev pub all_have_few : Plan → ℕ → Bool
all_have_few plan stays = nat_le (moves_in_all plan + length plan * stays) MAX_MOVES_IN_ALL

-- both of these are so
abbrev pub has_few_actions : Plan → ℕ → Bool
has_few_actions plan stays = each_has_few plan stays && all_have_few plan stays

-- that program, if each agent and all together have few enough actions
abbrev pub compiled_staying_if_few : Plan → Deps → ℕ → Result Program CompileFault
compiled_staying_if_few plan deps stays =
    if has_few_actions plan stays then Ok (compiled_staying plan deps stays) else Err TooLong

-- agent j stands on q at time s, before time t, and nobody after it: the latest visit of q before time t is by j
pub record IsLatestVisit (plan : Plan) (q : Cell) (t j s : ℕ) : Type 0 where
  pub agent : j < length plan
  pub before : s < t
  pub on : cell_of plan j s ≡ q
  pub since : (u k : ℕ) → s < u → u < t → k < length plan → cell_of plan k u ≢ q

-- w is to wait for the last of the moves by which its agent leaves q before time t
pub record IsLastLeaving (plan : Plan) (q : Cell) (t : ℕ) (w : Await) : Type 0 where
  pub agent : w.agent < length plan
  pub step : ℕ
  pub before : step < t
  pub left : IsTrue (leaves plan q step w.agent)
  pub last : (y : ℕ) → step < y → y < t → IsFalse (leaves plan q y w.agent)
  pub count : w.count ≡ moves_by plan w.agent (step + 1)
