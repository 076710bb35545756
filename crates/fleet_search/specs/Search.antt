-- The search over cells and times.
use Rattle.std.specs.Prelude.{◌≡◌, ℕ, ◌+◌, ◌-◌, ◌<◌, ◌≤◌, Bool, IsTrue, List, [], length, get_or, Contains, Option, None, Some, ◌↔◌, ◌⊎◌}
use Rattle.fleet_model.specs.declared.geometry.Cell.{Cell}
use Rattle.fleet_model.specs.declared.geometry.Dir.{Dir}
use Rattle.fleet_model.specs.declared.geometry.Place.{Place}
use Rattle.fleet_model.specs.Geometry.{place_of, moved}
use Rattle.fleet_model.specs.declared.limits.TheConstants.{MAX_HORIZON}
use Rattle.fleet_plan.specs.Plan.{Plan, AreNeighbours, AreBeside, cell_at}
use Rattle.fleet_search.specs.declared.frontier.State.{State}
use Rattle.fleet_search.specs.declared.intervals.Occupancy.{Occupancy}
use Rattle.fleet_search.specs.declared.intervals.TheConstants.{FOREVER}
use Rattle.fleet_search.specs.declared.frontier.Query.{Query}
use Rattle.fleet_search.specs.declared.frontier.Node.{Node}
use Rattle.fleet_search.specs.declared.frontier.Expansion.{Expansion}
use Rattle.fleet_search.specs.declared.frontier.BucketEnd.{BucketEnd}
use Rattle.fleet_search.specs.declared.frontier.Neighbour.{Neighbour}
use Rattle.fleet_grid.specs.Ground.{is_passable, cell_index}
use Rattle.fleet_search.specs.Distance.{heuristic, AreDistances}
use Rattle.fleet_search.specs.Way.{StepFits}
use Rattle.fleet_search.specs.Reserved.{IsUnoccupied, IsFreeFrom, IsFreeOn}
use Rattle.fleet_search.specs.Occupancies.{HaveOccupancies, occupancies_of}
use Rattle.fleet_search.specs.Intervals.{IsInInterval}
use Rattle.fleet_search.specs.Labels.{Times, earliest_in, IsSeen}
use Rattle.fleet_search.specs.Rows.{bucket_of}
use Rattle.fleet_search.specs.Frontier.{Exploration}
use Rattle.fleet_search.specs.Links.{place_in}

-- how many moves lead from the cell to the goal at least
abbrev pub heuristic_of : Query → Cell → ℕ
heuristic_of q c = heuristic q.distances.now c

-- the occupancies of the reserved agents on the cell
abbrev pub occupancies_on : Query → Cell → List Occupancy
occupancies_on q c = occupancies_of q.table.now c

-- the tables of the query are right: that of distances for its map and goal, and that of occupancies for the reserved
-- agents
pub record IsMeasured (q : Query) : Type 0 where
  pub heuristic : AreDistances q.grid.now q.distances.now q.goal
  pub occupancies : HaveOccupancies q.reserved.now q.table.now

-- a step to an equal or neighbouring cell that is passable, past the reserved agents
pub record IsStep (q : Query) (t : ℕ) (from to : Cell) : Type 0 where
  pub beside : AreBeside from to
  pub on_ground : IsTrue (is_passable q.grid.now (place_of to))
  pub fits : StepFits q.reserved.now t from to

-- a path over the state arrives at this time at the earliest, as far as the heuristic says
abbrev pub least_arrival : Query → State → ℕ
least_arrival q m = m.time + heuristic_of q m.cell

-- the bucket in which the state waits to be expanded. A path cannot arrive before `goal_free_from`: the states over
-- which one may arrive then are expanded by their distance from the goal, and the others by the time at which a path
-- over them arrives at the earliest
abbrev pub IsBucket : Query → State → ℕ → Type 0
IsBucket q m k = ((least_arrival q m ≤ q.goal_free_from) × (k ≡ heuristic_of q m.cell)) ⊎ ((q.goal_free_from < least_arrival q m) × (k ≡ least_arrival q m))

-- the agent may come to rest at the state
abbrev pub IsGoalState : Query → State → Type 0
IsGoalState q m = (m.cell ≡ q.goal) × (q.goal_free_from ≤ m.time)

-- the node that stands for those past the end of a list
abbrev pub no_node : Node
no_node = record { state = record { time = 0; cell = record { x = 0; y = 0 } }; parent = record { high = 0; low = 0 } }

-- the state of the node at this place of the list
abbrev pub state_in : List Node → ℕ → State
state_in nodes i = (get_or nodes i no_node).state

-- the place of the node from which the node at this place was reached
abbrev pub parent_in : List Node → ℕ → ℕ
parent_in nodes i = place_in (get_or nodes i no_node).parent

-- the state was reached
abbrev pub IsKnown : List Node → State → Type 0
IsKnown nodes m = (i : ℕ) × (i < length nodes) × (state_in nodes i ≡ m)

-- the agent waits on the cell of the state, and steps to the other cell at the time
pub record IsMove (q : Query) (from : State) (u : ℕ) (to : Cell) : Type 0 where
  pub waits : from.time ≤ u
  pub free : IsFreeOn q.reserved.now from.cell from.time u
  pub step : IsStep q u from.cell to

-- the state is the start, or the agent comes to it from a state that was reached
abbrev pub IsReachedFrom : Query → List Node → State → ℕ → Type 0
IsReachedFrom q nodes m from = ((m.time ≡ 0) × (m.cell ≡ q.start)) ⊎ ((u : ℕ) × (m.time ≡ u + 1) × (from < length nodes) × IsMove q (state_in nodes from) u m.cell)

-- the state was reached from the node at this place, and not too late
pub record IsSoundNode (q : Query) (nodes : List Node) (m : State) (from : ℕ) : Type 0 where
  pub reached_from : IsReachedFrom q nodes m from
  pub in_time : least_arrival q m ≤ q.horizon
  pub on_ground : IsTrue (is_passable q.grid.now (place_of m.cell))
  pub free : IsUnoccupied q.reserved.now m.time m.cell

-- the cell was reached at this time or before, and is free since
pub record IsCovered (q : Query) (nodes : List Node) (c : Cell) (t : ℕ) : Type 0 where
  pub since : ℕ
  pub early : since ≤ t
  pub known : IsKnown nodes (record { time = since; cell = c })
  pub free : IsFreeOn q.reserved.now c since t

-- if a move from the state leads to a cell in time, the cell was reached by then; and the agent may not come to rest at
-- the state
pub record IsExpanded (q : Query) (nodes : List Node) (m : State) : Type 0 where
  pub moves : (u : ℕ) (c : Cell) → AreNeighbours m.cell c → IsMove q m u c → u + 1 + heuristic_of q c ≤ q.horizon → IsCovered q nodes c (u + 1)
  pub not_end : IsGoalState q m → ⊥

-- the cell was reached sooner, and is free from then to the state
pub record IsSuperseded (q : Query) (nodes : List Node) (m : State) : Type 0 where
  pub since : ℕ
  pub sooner : since < m.time
  pub known : IsKnown nodes (record { time = since; cell = m.cell })
  pub free : IsFreeOn q.reserved.now m.cell since m.time

-- the states to which moves lead from this one were noted, or will be from a sooner one of its cell
abbrev pub IsStateSettled : Query → List Node → State → Type 0
IsStateSettled q nodes m = IsExpanded q nodes m ⊎ IsSuperseded q nodes m

-- the earliest time at which the cell was reached in the safe interval of this number among the occupancies there
abbrev pub earliest_of : Query → Times → Cell → ℕ → Option ℕ
earliest_of q labels c interval = labels (cell_index q.grid.now c) interval

-- every state that was reached is sound, and it is still open, or is just being expanded, or is settled. Each safe
-- interval in which a cell was reached is labelled with the earliest time; so none was noted twice
pub record IsFrontier (q : Query) (f : ℕ) (left : Option ℕ) (nodes : List Node) (labels : Times) (open_list : List (List ℕ)) : Type 0 where
  pub measured : IsMeasured q
  pub origin : IsKnown nodes (record { time = 0; cell = q.start })
  pub sound : (i : ℕ) → i < length nodes → IsSoundNode q nodes (state_in nodes i) (parent_in nodes i)
  pub apart : (i k : ℕ) → i < length nodes → k < length nodes → state_in nodes i ≡ state_in nodes k → i ≡ k
  pub labelled : (i : ℕ) → i < length nodes → (interval : ℕ) → IsInInterval (occupancies_on q (state_in nodes i).cell) interval (state_in nodes i).time → IsSeen (earliest_of q labels (state_in nodes i).cell interval) (state_in nodes i).time
  pub met : (c : Cell) (interval time : ℕ) → IsTrue (is_passable q.grid.now (place_of c)) → interval ≤ length (occupancies_on q c) → earliest_of q labels c interval ≡ Some time → IsInInterval (occupancies_on q c) interval time × IsKnown nodes (record { time = time; cell = c })
  pub stacked : (k i : ℕ) → Contains (bucket_of open_list k) i → IsBucket q (state_in nodes i) k
  pub past : (k : ℕ) → k < f → bucket_of open_list k ≡ []
  pub done : (i : ℕ) → i < length nodes → ((k : ℕ) × Contains (bucket_of open_list k) i) ⊎ ((left ≡ Some i) ⊎ IsStateSettled q nodes (state_in nodes i))

-- .. of what a search has come to
abbrev pub IsFrontierOf : Query → ℕ → Option ℕ → Exploration → Type 0
IsFrontierOf q f left s = IsFrontier q f left s.nodes (earliest_in s.labels) s.open_list

-- the state may be left by moves that begin before this time, and by no later ones
abbrev pub IsFreeUntil : Query → State → ℕ → Type 0
IsFreeUntil q m until = ((t : ℕ) → m.time ≤ t → t < until → IsUnoccupied q.reserved.now t m.cell) × ((t : ℕ) → t < FOREVER → IsFreeOn q.reserved.now m.cell m.time t → t < until)

-- the state that is expanded was reached, and waited in this bucket
pub record WasOpen (q : Query) (f : ℕ) (s : Exploration) (place : ℕ) (m : State) : Type 0 where
  pub within : place < length s.nodes
  pub here : state_in s.nodes place ≡ m
  pub bucket : IsBucket q m f

-- a state of this bucket is just being expanded in a search by a horizon, by moves that begin before a time
pub record IsExpansion (q : Query) (f : ℕ) (l : Expansion) (s : Exploration) : Type 0 where
  pub horizon : q.horizon ≤ MAX_HORIZON
  pub frontier : IsFrontierOf q (f - 1) (Some l.place) s
  pub left : WasOpen q f s l.place l.state
  pub until : IsFreeUntil q l.state l.until

-- each state that was reached stays so; if no new one was reached, no new one is open
pub record Grows (old new : Exploration) : Type 0 where
  pub more : length old.nodes ≤ length new.nodes
  pub kept : (i : ℕ) → i < length old.nodes → get_or new.nodes i no_node ≡ get_or old.nodes i no_node
  pub same : length new.nodes ≡ length old.nodes → (k : ℕ) → bucket_of new.open_list k ≡ bucket_of old.open_list k

-- the state is still being expanded, and no state that was reached is lost
pub record ExpandsOn (q : Query) (f : ℕ) (l : Expansion) (old new : Exploration) : Type 0 where
  pub leaving : IsExpansion q f l new
  pub grows : Grows old new

-- the state is expanded, and no state that was reached is lost
pub record HasExpanded (q : Query) (f : ℕ) (old new : Exploration) : Type 0 where
  pub frontier : IsFrontierOf q (f - 1) None new
  pub grows : Grows old new

-- the cell lies beside the one that is left, and these are the occupancies there
pub record IsNeighbour (q : Query) (left : Cell) (b : Neighbour) : Type 0 where
  pub neighbours : AreNeighbours left b.cell
  pub on_ground : IsTrue (is_passable q.grid.now (place_of b.cell))
  pub occupancies : b.occupancies.now ≡ occupancies_on q b.cell

-- if the step that begins at the time fits and is not too late, the cell was reached by its end
abbrev pub IsFoundAt : Query → State → Cell → ℕ → List Node → Type 0
IsFoundAt q left c u nodes = IsStep q u left.cell c → u + 1 + heuristic_of q c ≤ q.horizon → IsCovered q nodes c (u + 1)

-- the same of all moves that lead to the cell in the safe interval
abbrev pub IsFoundIn : Query → State → Cell → ℕ → List Node → Type 0
IsFoundIn q left c interval nodes = (u : ℕ) → IsMove q left u c → IsInInterval (occupancies_on q c) interval (u + 1) → u + 1 + heuristic_of q c ≤ q.horizon → IsCovered q nodes c (u + 1)

-- if a move leads to the cell in time, the cell was reached by then
abbrev pub IsFoundFrom : Query → State → Cell → List Node → Type 0
IsFoundFrom q left c nodes = (u : ℕ) → IsMove q left u c → u + 1 + heuristic_of q c ≤ q.horizon → IsCovered q nodes c (u + 1)

-- the same of the cell that is reached in this direction
abbrev pub IsFoundInDir : Query → State → Dir → List Node → Type 0
IsFoundInDir q left dir nodes = (c : Cell) → place_of c ≡ moved (place_of left.cell) dir → IsFoundFrom q left c nodes

-- the state is still being expanded, and this is found among the nodes
pub record Finds (q : Query) (f : ℕ) (l : Expansion) (Found : List Node → Type 0) (old new : Exploration) : Type 0 where
  pub expands_on : ExpandsOn q f l old new
  pub found : Found new.nodes

-- how the expansion of a bucket has ended: the state at this place was reached and waited in the bucket, and the agent
-- may come to rest at it; or a new state was reached; or no state is left in the bucket
abbrev pub HasEnded : Query → ℕ → Exploration → Exploration → BucketEnd → Type 0
HasEnded q f old new (BucketEnd.Goal place) =
    IsFrontierOf q f (Some place) new × WasOpen q f new place (state_in new.nodes place) × IsGoalState q (state_in new.nodes place)
HasEnded q f old new BucketEnd.Grew = (length old.nodes < length new.nodes) × IsFrontierOf q (f - 1) None new
HasEnded q f old new BucketEnd.Empty = (length new.nodes ≡ length old.nodes) × IsFrontierOf q (f + 1) None new

-- the tables are right, the agent may stand on the start, the horizon is not beyond the greatest, and the goal is free
-- from `goal_free_from` on, and not sooner
pub record IsPosed (q : Query) : Type 0 where
  pub measured : IsMeasured q
  pub on_ground : IsTrue (is_passable q.grid.now (place_of q.start))
  pub free : IsUnoccupied q.reserved.now 0 q.start
  pub horizon : q.horizon ≤ MAX_HORIZON
  pub goal_free_from : (t : ℕ) → IsFreeFrom q.reserved.now q.goal t ↔ (q.goal_free_from ≤ t)

-- the agent may stand on the start and on the goal, which is free from this time on, and not past the horizon
pub record IsOpen (passable : Place → Bool) (reserved : Plan) (start goal : Cell) (horizon from : ℕ) : Type 0 where
  pub start_on_ground : IsTrue (passable (place_of start))
  pub goal_on_ground : IsTrue (passable (place_of goal))
  pub start_free : IsUnoccupied reserved 0 start
  pub goal_free_from : (t : ℕ) → IsFreeFrom reserved goal t ↔ (from ≤ t)
  pub in_time : from ≤ horizon

-- a path of so many steps from the start to the cell, each of which fits
pub record IsTrail (q : Query) (n : ℕ) (last : Cell) (path : List Cell) : Type 0 where
  pub long : length path ≡ n + 1
  pub starts : cell_at path 0 ≡ q.start
  pub ends : cell_at path n ≡ last
  pub on_ground : IsTrue (is_passable q.grid.now (place_of (cell_at path 0)))
  pub steps : (t : ℕ) → t < n → IsStep q t (cell_at path t) (cell_at path (t + 1))

-- the node at this place is being expanded in a search
pub record IsSearched (s : Exploration) (place : ℕ) : Type 0 where
  pub query : Query
  pub bucket : ℕ
  pub horizon : query.horizon ≤ MAX_HORIZON
  pub frontier : IsFrontierOf query bucket (Some place) s

-- the path by which the node at this place was reached, whatever was searched for
abbrev pub IsTrailOf : Exploration → ℕ → List Cell → Type 0
IsTrailOf s place path = (q : Query) (bucket : ℕ) → IsFrontierOf q bucket (Some place) s → IsTrail q (state_in s.nodes place).time (state_in s.nodes place).cell path
