-- A program: for each agent a start, a goal and a list of actions. An action is a step and awaits, which are pairs of
-- an agent and a count. Agents count from 0, the actions of each from 1. What is asked of an agent or an action that is
-- not there is answered by the origin, nothing or an empty list.
use Rattle.std.specs.Prelude.{◌≡◌, ◌≢◌, ℕ, zero, suc, ◌+◌, ◌<◌, ◌≤◌, List, [], ◌∷◌, length, map, take, Option, Some, None, slice_get, option_map, sum_by, All, Contains, IsTrue}
use Rattle.std.specs.Option.{option_map_or}
use Rattle.std.specs.List.Sorted.{IsStrictlyIncreasing}
use Rattle.fleet_model.specs.declared.geometry.Cell.{Cell}
use Rattle.fleet_model.specs.declared.geometry.Place.{Place}
use Rattle.fleet_model.specs.declared.geometry.Step.{Step}
use Rattle.fleet_model.specs.declared.program.Await.{Await}
use Rattle.fleet_model.specs.declared.program.Action.{Action}
use Rattle.fleet_model.specs.declared.program.AgentProgram.{AgentProgram}
use Rattle.fleet_model.specs.declared.program.Instruction.{Instruction}
use Rattle.fleet_model.specs.declared.program.Instruction.TheVariants as v
use Rattle.fleet_model.specs.declared.limits.TheConstants.{MAX_AGENTS, MAX_COORDINATE, MAX_MOVES, MAX_MOVES_IN_ALL, MAX_MOVES_V1, MAX_AWAIT, MAX_AWAIT_V1}
use Rattle.fleet_model.specs.Geometry.{place_of, is_move, stepped}

-- for each agent, by its number, what it is to do
abbrev pub Program : Type 0
Program = List AgentProgram

-- the upper left cell of every map
abbrev pub origin : Cell
origin = record { x = 0; y = 0 }

-- where agent i begins
abbrev pub start_of : Program → ℕ → Cell
start_of p i = option_map_or (λ a. a.start) (slice_get p i) origin

-- where agent i is to end
abbrev pub goal_of : Program → ℕ → Cell
goal_of p i = option_map_or (λ a. a.goal) (slice_get p i) origin

-- what agent i does, in order
abbrev pub actions_of : Program → ℕ → List Action
actions_of p i = option_map_or (λ a. a.actions) (slice_get p i) []

-- how many actions agent i has, each of which is one move or one stay
abbrev pub moves : Program → ℕ → ℕ
moves p i = length (actions_of p i)

-- action n of agent i. There is no action 0
abbrev pub action_of : Program → ℕ → ℕ → Option Action
action_of p i zero = None
action_of p i (suc n) = slice_get (actions_of p i) n

-- what action n of agent i does
abbrev pub step_of : Program → ℕ → ℕ → Option Step
step_of p i n = option_map (λ a. a.step) (action_of p i n)

-- the awaits of action n of agent i
abbrev pub awaits_of : Program → ℕ → ℕ → List Await
awaits_of p i n = option_map_or (λ a. a.awaits) (action_of p i n) []

-- how many actions the agents have together
abbrev pub total_moves : Program → ℕ
total_moves p = sum_by (λ a. length a.actions) p

-- how many awaits the actions of all agents have together
abbrev pub total_awaits : Program → ℕ
total_awaits p = sum_by (λ a. sum_by (λ s. length s.awaits) a.actions) p

-- how many awaits the actions of agent i have together
abbrev pub agent_awaits : Program → ℕ → ℕ
agent_awaits p i = sum_by (λ s. length s.awaits) (actions_of p i)

-- how many awaits the first n actions of agent i have together
abbrev pub awaits_before : Program → ℕ → ℕ → ℕ
awaits_before p i n = sum_by (λ s. length s.awaits) (take n (actions_of p i))

-- instruction k of action n of agent i: one of its awaits, or after them its step
abbrev pub IsInstruction : Program → (i n k : ℕ) → Instruction → Type 0
IsInstruction p i n k (v.Await w) = slice_get (awaits_of p i n) k ≡ Some w
IsInstruction p i n k (v.Step s) = (k ≡ length (awaits_of p i n)) × (step_of p i n ≡ Some s)

-- where the instruction stands with which an agent goes on after that one: the next one of its action, or after a step
-- the first one of the action after it
abbrev pub offset_after : ((finished k : ℕ) → ℕ) → (finished k : ℕ) → Instruction → ℕ
offset_after offset finished k (v.Await w) = offset finished (k + 1)
offset_after offset finished k (v.Step s) = offset (finished + 1) 0

-- every action is a move
abbrev pub AreMoves : List Action → Type 0
AreMoves actions = All (λ s. IsTrue (is_move s.step)) actions

-- every action of every agent is a move
abbrev pub NeverStays : Program → Type 0
NeverStays p = All (λ a. AreMoves a.actions) p

-- the place to which these actions lead from q
abbrev pub walked : Place → List Action → Place
walked q [] = q
walked q (a ∷ actions) = walked (stepped q a.step) actions

-- where agent i is after its first n actions: its start, moved by their steps. It stays at the last place
abbrev pub path : Program → ℕ → ℕ → Place
path p i n = walked (place_of (start_of p i)) (take n (actions_of p i))

-- an await by agent i that can be met: it names another agent, and a count from 1 to that agent's actions
pub record IsInRange (p : Program) (i : ℕ) (w : Await) : Type 0 where
  pub agent : w.agent < length p
  pub other : w.agent ≢ i
  pub first : 1 ≤ w.count
  pub last : w.count ≤ moves p w.agent

-- every await of the program can be met
abbrev pub AreInRange : Program → Type 0
AreInRange p = (i n : ℕ) (w : Await) → Contains (awaits_of p i n) w → IsInRange p i w

-- the awaits of an action of agent i of n agents: in strictly rising order of agent, each of another agent that is
-- there, with a count from 1 on that four bytes hold, which may be above the awaited agent's actions
pub record AreAwaits (n i : ℕ) (awaits : List Await) : Type 0 where
  pub rising : IsStrictlyIncreasing (map (λ w. w.agent) awaits)
  pub agents : All (λ w. w.agent < n) awaits
  pub others : All (λ w. w.agent ≢ i) awaits
  pub counts : All (λ w. 1 ≤ w.count) awaits
  pub few : All (λ w. w.count ≤ MAX_AWAIT) awaits

-- column and row fit two bytes
pub record IsCell (c : Cell) : Type 0 where
  pub x : c.x ≤ MAX_COORDINATE
  pub y : c.y ≤ MAX_COORDINATE

-- a program within the limits on agents, cells, actions of one agent, actions in all and awaits
pub record IsWellFormed (p : Program) : Type 0 where
  pub some_agents : 1 ≤ length p
  pub few_agents : length p ≤ MAX_AGENTS
  pub starts : (i : ℕ) → IsCell (start_of p i)
  pub goals : (i : ℕ) → IsCell (goal_of p i)
  pub moves_each : (i : ℕ) → moves p i ≤ MAX_MOVES
  pub moves_in_all : total_moves p ≤ MAX_MOVES_IN_ALL
  pub awaits : (i n : ℕ) → AreAwaits (length p) i (awaits_of p i n)

-- agent i of a program of n agents, within the limits
pub record IsAgent (n i : ℕ) (a : AgentProgram) : Type 0 where
  pub start : IsCell a.start
  pub goal : IsCell a.goal
  pub moves : length a.actions ≤ MAX_MOVES
  pub awaits : All (λ s. AreAwaits n i s.awaits) a.actions

-- version 1 of the bytes has room for the number of the agent's actions and for the counts of their awaits
pub record IsShort (a : AgentProgram) : Type 0 where
  pub few : length a.actions ≤ MAX_MOVES_V1
  pub counts : All (λ s. All (λ w. w.count ≤ MAX_AWAIT_V1) s.awaits) a.actions

-- .. of all agents
abbrev pub AreShort : Program → Type 0
AreShort p = All IsShort p
