-- Agents in places, which are numbers, at one time and at the next.
use Rattle.std.specs.Prelude.{◌≡◌, ◌≢◌, ℕ, ◌<◌, ◌≤◌, List, length, slice_index, Option, Some, None, ◌⊎◌, All}
use Rattle.fleet_model.specs.declared.limits.TheConstants.{MAX_AGENTS}
use Rattle.fleet_grid.specs.Ground.{Ground, cell_index}
use Rattle.fleet_grid.specs.declared.table.Table.{Table}
use Rattle.fleet_grid.specs.Table.{value_in}
use Rattle.fleet_plan.specs.Plan.{Plan, cell_of}
use Rattle.fleet_plan.specs.declared.plan_fault.Conflict.{Conflict}
use Rattle.fleet_plan.specs.declared.plan_fault.Conflict.TheVariants.{Vertex, Swapping, Cycle}
use Rattle.fleet_plan.specs.FirstFault.{IsPairUpTo, HasConflict, time_of}
use Rattle.fleet_plan.specs.UnderWay.{IsSoForOthers, Covers}
use Rattle.fleet_plan.specs.Rings.{ahead_of, walk_of, NamesAgents, IsOnRing, IsLeastOnRing}

-- every agent stands on a cell of the map, at every time
abbrev pub StandOnMap : Ground → Plan → Type 0
StandOnMap g plan = (i t : ℕ) → i < length plan → ((cell_of plan i t).x < g.width) × ((cell_of plan i t).y < g.height)

-- the agent stands in its place at time t
abbrev pub StandsInPlace : Ground → Plan → ℕ → List ℕ → ℕ → Type 0
StandsInPlace g plan t places i = slice_index places i ≡ cell_index g (cell_of plan i t)

-- each agent that stands nowhere in the row stands in its place at time t
abbrev pub OthersStandAt : Ground → Plan → ℕ → List ℕ → List ℕ → Type 0
OthersStandAt g plan t row places = IsSoForOthers row (length plan) (StandsInPlace g plan t places)

-- the agents stand in these places at time t
pub record StandOnPlaces (g : Ground) (plan : Plan) (t : ℕ) (places : List ℕ) : Type 0 where
  pub all : length places ≡ length plan
  pub each : (i : ℕ) → i < length plan → StandsInPlace g plan t places i

-- the agents stand in one place
pub record Meet (places : List ℕ) (i j : ℕ) : Type 0 where
  pub order : i < j
  pub agents : j < length places
  pub same : slice_index places i ≡ slice_index places j

-- the first two agents in one place
pub record IsFirstMeeting (places : List ℕ) (i j : ℕ) : Type 0 where
  pub meet : Meet places i j
  pub first : (k l : ℕ) → Meet places k l → IsPairUpTo i j k l

-- the table has the agent in its place
abbrev pub HasIn : Table ℕ → List ℕ → ℕ → Type 0
HasIn table places i = value_in table (slice_index places i) ≡ i

-- the table has each agent in its place
abbrev pub IsEntered : Table ℕ → List ℕ → Type 0
IsEntered table places = (i : ℕ) → i < length places → HasIn table places i

-- the table has agent i in its place now, and each agent that it had in its place before
pub record EntersAgent (old new : Table ℕ) (places : List ℕ) (i : ℕ) : Type 0 where
  pub here : HasIn new places i
  pub others : (k : ℕ) → k < length places → HasIn old places k → HasIn new places k

-- the agent goes to no other place
abbrev pub Stays : List ℕ → List ℕ → ℕ → Type 0
Stays places next i = slice_index next i ≡ slice_index places i

-- nobody is ahead of the agent
abbrev pub IsUnblocked : List (Option ℕ) → ℕ → Type 0
IsUnblocked ahead i = ahead_of ahead i ≡ None

-- who is ahead of the agent: who stands in the place to which it goes, if it goes to another one
abbrev pub IsAhead : List ℕ → List ℕ → ℕ → Option ℕ → Type 0
IsAhead places next i None = Stays places next i ⊎ ((j : ℕ) → j < length places → slice_index places j ≢ slice_index next i)
IsAhead places next i (Some j) = (slice_index next i ≢ slice_index places i) × (j < length places) × (slice_index places j ≡ slice_index next i)

-- the row is of agents, among them each that goes to another place
pub record NamesLeavers (places next : List ℕ) (row : List ℕ) : Type 0 where
  pub all : length next ≡ length places
  pub agents : All (λ i. i < length places) row
  pub others : IsSoForOthers row (length places) (Stays places next)

-- who is ahead of each agent
pub record AreAhead (places next : List ℕ) (ahead : List (Option ℕ)) : Type 0 where
  pub all : length ahead ≡ length places
  pub each : (i : ℕ) → i < length places → IsAhead places next i (ahead_of ahead i)

-- two agents are ahead of each other
pub record Exchange (ahead : List (Option ℕ)) (i j : ℕ) : Type 0 where
  pub there : ahead_of ahead i ≡ Some j
  pub back : ahead_of ahead j ≡ Some i

-- the first two agents that are ahead of each other
pub record IsFirstExchange (ahead : List (Option ℕ)) (i j : ℕ) : Type 0 where
  pub exchange : Exchange ahead i j
  pub first : (k l : ℕ) → Exchange ahead k l → i ≤ k

-- no two agents are so
abbrev pub HasNone : (ℕ → ℕ → Type 0) → Type 0
HasNone P = (i j : ℕ) → P i j → ⊥

-- nobody meets another
abbrev pub HasNoMeeting : List ℕ → Type 0
HasNoMeeting places = HasNone (Meet places)

-- nobody meets another, and no two agents are ahead of each other
pub record HasNoExchange (places : List ℕ) (ahead : List (Option ℕ)) : Type 0 where
  pub apart : HasNoMeeting places
  pub none : HasNone (Exchange ahead)

-- the first conflict of the agents in these places at the time and the next one
abbrev pub IsFirstIn : List ℕ → List ℕ → ℕ → Conflict → Type 0
IsFirstIn places next t (Vertex x i j) = (x ≡ t) × IsFirstMeeting places i j
IsFirstIn places next t (Swapping x i j) = (x ≡ t) × HasNoMeeting places × ((ahead : List (Option ℕ)) × AreAhead places next ahead × IsFirstExchange ahead i j)
IsFirstIn places next t (Cycle x least) = (x ≡ t) × ((ahead : List (Option ℕ)) × AreAhead places next ahead × HasNoExchange places ahead × IsLeastOnRing ahead least)

-- they have no conflict at the time and the next one
pub record IsFreeIn (places next : List ℕ) : Type 0 where
  pub ahead : List (Option ℕ)
  pub are_ahead : AreAhead places next ahead
  pub none : HasNoExchange places ahead
  pub no_ring : (i : ℕ) → IsOnRing ahead i → ⊥

-- whoever is ahead of an agent is an agent, and the row is of agents, among them each that somebody is ahead of
pub record NamesMovers (ahead : List (Option ℕ)) (row : List ℕ) : Type 0 where
  pub names : NamesAgents ahead
  pub few : length row ≤ MAX_AGENTS
  pub agents : All (λ i. i < length ahead) row
  pub others : IsSoForOthers row (length ahead) (IsUnblocked ahead)

-- the first conflict in the step after time t, by who is ahead of whom
abbrev pub IsFirstAhead : List (Option ℕ) → ℕ → Conflict → Type 0
IsFirstAhead ahead t (Vertex x i j) = ⊥
IsFirstAhead ahead t (Swapping x i j) = (x ≡ t) × IsFirstExchange ahead i j
IsFirstAhead ahead t (Cycle x least) = (x ≡ t) × HasNone (Exchange ahead) × IsLeastOnRing ahead least

-- there is no conflict in the step
pub record IsFreeAhead (ahead : List (Option ℕ)) : Type 0 where
  pub none : HasNone (Exchange ahead)
  pub no_ring : (i : ℕ) → IsOnRing ahead i → ⊥

-- the agent is where it goes, nobody is ahead of it, and no walk has met it
pub record IsAgentSettled (places next : List ℕ) (ahead walks : List (Option ℕ)) (i : ℕ) : Type 0 where
  pub same : Stays places next i
  pub nobody : IsUnblocked ahead i
  pub unwalked : walk_of walks i ≡ None

-- all agents are settled
abbrev pub AreAgentsSettled : List ℕ → List ℕ → List (Option ℕ) → List (Option ℕ) → Type 0
AreAgentsSettled places next ahead walks = (i : ℕ) → i < length next → IsAgentSettled places next ahead walks i

-- each agent that stands nowhere in the row is settled
abbrev pub AreOtherAgentsSettled : List ℕ → List ℕ → List ℕ → List (Option ℕ) → List (Option ℕ) → Type 0
AreOtherAgentsSettled row places next ahead walks = IsSoForOthers row (length next) (IsAgentSettled places next ahead walks)

-- no conflict is earlier than time t, at which the agents stand in these places
pub record IsSweep (g : Ground) (plan : Plan) (places : List ℕ) (t : ℕ) : Type 0 where
  pub here : StandOnPlaces g plan t places
  pub earlier : (d : Conflict) → HasConflict plan d → t ≤ time_of d

-- the rows before the step after time t
pub record IsSwept (g : Ground) (plan : Plan) (table : Table ℕ) (places next : List ℕ) (ahead walks : List (Option ℕ)) (row : List ℕ) (t : ℕ) : Type 0 where
  pub sweep : IsSweep g plan places t
  pub entered : IsEntered table places
  pub settled : AreAgentsSettled places next ahead walks
  pub covers : Covers plan t row

-- what a sweep knows: the table, for each agent its place at the time and at the next one, who is ahead of it and whose
-- walk has met it, and last the agents that are looked at
pub record SweepRows : Type 0 where
  pub table : Table ℕ
  pub places : List ℕ
  pub next : List ℕ
  pub ahead : List (Option ℕ)
  pub walks : List (Option ℕ)
  pub agents : List ℕ

-- each row of agents has an entry for each agent of the plan
pub record FitsPlan (plan : Plan) (rows : SweepRows) : Type 0 where
  pub places : length rows.places ≡ length plan
  pub next : length rows.next ≡ length plan
  pub ahead : length rows.ahead ≡ length plan
  pub walks : length rows.walks ≡ length plan

-- nobody is ahead of anybody, no walk has met anybody, and all agents are looked at
pub record AreFresh (plan : Plan) (rows : SweepRows) : Type 0 where
  pub fits : FitsPlan plan rows
  pub nobody : (i : ℕ) → IsUnblocked rows.ahead i
  pub unwalked : (i : ℕ) → walk_of rows.walks i ≡ None
  pub covers : Covers plan 0 rows.agents

-- the sweep has come to time t: its rows are those before the step after it
pub record HasComeTo (g : Ground) (plan : Plan) (t : ℕ) (rows : SweepRows) : Type 0 where
  pub fits : FitsPlan plan rows
  pub swept : IsSwept g plan rows.table rows.places rows.next rows.ahead rows.walks rows.agents t

-- the sweep has looked ahead at the step after time t: the agents that are not looked at go nowhere, and are entered
-- in their next places
pub record HasLookedAhead (plan : Plan) (t : ℕ) (rows : SweepRows) : Type 0 where
  pub fits : FitsPlan plan rows
  pub entered : IsSoForOthers rows.agents (length rows.next) (HasIn rows.table rows.next)
  pub settled : AreOtherAgentsSettled rows.agents rows.places rows.next rows.ahead rows.walks
  pub covers : Covers plan t rows.agents

-- the agents have come to their next places by time t
pub record HaveArrived (plan : Plan) (t : ℕ) (old new : SweepRows) : Type 0 where
  pub fits : FitsPlan plan new
  pub next : new.next ≡ old.next
  pub entered : IsEntered new.table new.next
  pub settled : AreAgentsSettled new.places new.next new.ahead new.walks
  pub covers : Covers plan t new.agents
