-- Small programs, whose runs, levels, visits and acceptance can be worked out by hand.
use Rattle.std.specs.Prelude.{◌≡◌, ℕ, ◌+◌, ℤ, pos, negsuc, Bool, false, nat_lt, ◌&&◌, List, [], ◌∷◌, length, map, replicate}
use Rattle.fleet_model.specs.declared.geometry.Cell.{Cell}
use Rattle.fleet_model.specs.declared.geometry.Place.{Place}
use Rattle.fleet_model.specs.declared.geometry.Dir.{Dir}
use Rattle.fleet_model.specs.declared.geometry.Dir.TheVariants.{North, East, South, West}
use Rattle.fleet_model.specs.declared.geometry.Step.TheVariants.{Go, Dwell}
use Rattle.fleet_model.specs.declared.program.Await.{Await}
use Rattle.fleet_model.specs.declared.program.Action.{Action}
use Rattle.fleet_model.specs.declared.program.ActionId.{ActionId}
use Rattle.fleet_model.specs.declared.program.AgentProgram.{AgentProgram}
use Rattle.fleet_model.specs.declared.program.Visit.{Visit}
use Rattle.fleet_model.specs.declared.task.Task.{Task}
use Rattle.fleet_model.specs.Program.{Program}
use Rattle.fleet_model.specs.Machine.{Holds, run, held_ticks, indices, IsFinish, IsEnd}
use Rattle.fleet_model.specs.Chain.{IsNumbering}
use Rattle.fleet_model.specs.Visit.{ListsVisits, Adjacent, ComesAfterByAwait, ComesAfterByChain}
use Rattle.fleet_model.specs.Accepted.{IsRight, IsAcceptedBy}

-- ---- words

abbrev pub cell_xy : ℕ → ℕ → Cell
cell_xy x y = record { x = x; y = y }

abbrev pub place_xy : ℕ → ℕ → Place
place_xy x y = record { x = pos x; y = pos y }

-- the await of n finished actions of agent i
abbrev pub await_on : ℕ → ℕ → Await
await_on i n = record { agent = i; count = n }

-- a move in this direction, after these awaits
abbrev pub go : Dir → List Await → Action
go d awaits = record { step = Go d; awaits = awaits }

-- a stay, after these awaits
abbrev pub dwell : List Await → Action
dwell awaits = record { step = Dwell; awaits = awaits }

abbrev pub agent_with : Cell → Cell → List Action → AgentProgram
agent_with start goal actions = record { start = start; goal = goal; actions = actions }

abbrev pub task_between : Cell → Cell → Task
task_between start goal = record { start = start; goal = goal }

-- action n of agent i
abbrev pub nth_action : ℕ → ℕ → ActionId
nth_action i n = record { agent = i; number = n }

-- the visit of agent i that begins at its position n
abbrev pub nth_visit : ℕ → ℕ → Visit
nth_visit i n = record { agent = i; position = n }

-- a coordinate from 0 to below n
abbrev is_below : ℤ → ℕ → Bool
is_below (pos x) n = nat_lt x n
is_below (negsuc x) n = false

-- the passable places of a map of so many columns and rows without a blocked cell
abbrev pub is_on_open_map : ℕ → ℕ → Place → Bool
is_on_open_map columns rows q = is_below q.x columns && is_below q.y rows

-- ---- programs

-- agent 0 goes from 1,0 to 3,0, and agent 1 behind it from 0,0 to 2,0. Each action of agent 1 awaits that its next cell
-- has been left
abbrev pub pair : Program
pair =
    agent_with (cell_xy 1 0) (cell_xy 3 0) (go East [] ∷ go East [] ∷ [])
    ∷ agent_with (cell_xy 0 0) (cell_xy 2 0) (go East (await_on 0 1 ∷ []) ∷ go East (await_on 0 2 ∷ []) ∷ [])
    ∷ []

abbrev pub pair_tasks : List Task
pair_tasks = task_between (cell_xy 1 0) (cell_xy 3 0) ∷ task_between (cell_xy 0 0) (cell_xy 2 0) ∷ []

-- the pair, but that agent 1 sets out without an await
abbrev pub rash_pair : Program
rash_pair =
    agent_with (cell_xy 1 0) (cell_xy 3 0) (go East [] ∷ go East [] ∷ [])
    ∷ agent_with (cell_xy 0 0) (cell_xy 2 0) (go East [] ∷ go East (await_on 0 2 ∷ []) ∷ [])
    ∷ []

-- the pair, but that agent 1 awaits in its last action that agent 0 has come to 2,0 and not that it has left it
abbrev pub early_pair : Program
early_pair =
    agent_with (cell_xy 1 0) (cell_xy 3 0) (go East [] ∷ go East [] ∷ [])
    ∷ agent_with (cell_xy 0 0) (cell_xy 2 0) (go East (await_on 0 1 ∷ []) ∷ go East (await_on 0 1 ∷ []) ∷ [])
    ∷ []

-- the pair, but that agent 0 first stays on its start
abbrev pub late_pair : Program
late_pair =
    agent_with (cell_xy 1 0) (cell_xy 3 0) (dwell [] ∷ go East [] ∷ go East [] ∷ [])
    ∷ agent_with (cell_xy 0 0) (cell_xy 2 0) (go East (await_on 0 2 ∷ []) ∷ go East (await_on 0 3 ∷ []) ∷ [])
    ∷ []

-- the same, but that agent 1 awaits at first that agent 0 has stayed and not that it has left
abbrev pub hasty_pair : Program
hasty_pair =
    agent_with (cell_xy 1 0) (cell_xy 3 0) (dwell [] ∷ go East [] ∷ go East [] ∷ [])
    ∷ agent_with (cell_xy 0 0) (cell_xy 2 0) (go East (await_on 0 1 ∷ []) ∷ go East (await_on 0 3 ∷ []) ∷ [])
    ∷ []

-- the pair, after which both agents stay two actions longer
abbrev pub staying_pair : Program
staying_pair =
    agent_with (cell_xy 1 0) (cell_xy 3 0) (go East [] ∷ go East [] ∷ dwell [] ∷ dwell [] ∷ [])
    ∷ agent_with (cell_xy 0 0) (cell_xy 2 0) (go East (await_on 0 1 ∷ []) ∷ go East (await_on 0 2 ∷ []) ∷ dwell [] ∷ dwell [] ∷ [])
    ∷ []

-- one agent that comes back to its start, and stays on it at first and at last
abbrev pub sentry : Program
sentry = agent_with (cell_xy 0 0) (cell_xy 0 0) (dwell [] ∷ go East [] ∷ go West [] ∷ dwell [] ∷ []) ∷ []

-- agent 0 stands on 1,0 for good, and agent 1 goes through it from 0,0 to 2,0
abbrev pub blocked_pair : Program
blocked_pair =
    agent_with (cell_xy 1 0) (cell_xy 1 0) []
    ∷ agent_with (cell_xy 0 0) (cell_xy 2 0) (go East [] ∷ go East [] ∷ [])
    ∷ []

abbrev pub blocked_tasks : List Task
blocked_tasks = task_between (cell_xy 1 0) (cell_xy 1 0) ∷ task_between (cell_xy 0 0) (cell_xy 2 0) ∷ []

-- the first action of either agent awaits that of the other
abbrev pub deadlock : Program
deadlock =
    agent_with (cell_xy 1 0) (cell_xy 3 0) (go East (await_on 1 1 ∷ []) ∷ go East [] ∷ [])
    ∷ agent_with (cell_xy 0 0) (cell_xy 2 0) (go East (await_on 0 1 ∷ []) ∷ go East [] ∷ [])
    ∷ []

-- one agent that has nothing to do
abbrev pub idler : Program
idler = agent_with (cell_xy 0 0) (cell_xy 0 0) [] ∷ []

-- agent 2 enters 1,0, which agent 0 has left. It awaits agent 1 alone, which awaits agent 0
abbrev pub relay : Program
relay =
    agent_with (cell_xy 1 0) (cell_xy 2 0) (go East [] ∷ [])
    ∷ agent_with (cell_xy 0 2) (cell_xy 1 2) (go East (await_on 0 1 ∷ []) ∷ [])
    ∷ agent_with (cell_xy 0 0) (cell_xy 1 0) (go East (await_on 1 1 ∷ []) ∷ [])
    ∷ []

abbrev pub relay_tasks : List Task
relay_tasks = task_between (cell_xy 1 0) (cell_xy 2 0) ∷ task_between (cell_xy 0 2) (cell_xy 1 2) ∷ task_between (cell_xy 0 0) (cell_xy 1 0) ∷ []

-- one agent that leaves the map to the west and comes back
abbrev pub excursion : Program
excursion = agent_with (cell_xy 0 0) (cell_xy 0 0) (go West [] ∷ go East [] ∷ []) ∷ []

-- two agents that change places
abbrev pub exchange : Program
exchange =
    agent_with (cell_xy 0 0) (cell_xy 1 0) (go East [] ∷ [])
    ∷ agent_with (cell_xy 1 0) (cell_xy 0 0) (go West [] ∷ [])
    ∷ []

-- four agents on a square, each of which goes to the next one's cell
abbrev pub carousel : Program
carousel =
    agent_with (cell_xy 0 0) (cell_xy 1 0) (go East [] ∷ [])
    ∷ agent_with (cell_xy 1 0) (cell_xy 1 1) (go South [] ∷ [])
    ∷ agent_with (cell_xy 1 1) (cell_xy 0 1) (go West [] ∷ [])
    ∷ agent_with (cell_xy 0 1) (cell_xy 0 0) (go North [] ∷ [])
    ∷ []

-- ---- what is said of them

-- in each of the first n ticks both agents of a pair are held
abbrev pub both_held : ℕ → Holds
both_held n = replicate n (0 ∷ 1 ∷ [])

-- the rows are the places of the agents after 0, 1, 2 and so on ticks
abbrev pub ShowsPlaces : Program → Holds → List (List Place) → Type 0
ShowsPlaces p holds rows = rows ≡ map (λ t. map (λ s. s.place) (run p holds t)) (indices (length rows))

-- the run shows these places from its start to its finish after f ticks, in w of which a ready agent is held
pub record RunsAs (p : Program) (holds : Holds) (rows : List (List Place)) (f w : ℕ) : Type 0 where
  pub all : length rows ≡ f + 1
  pub places : ShowsPlaces p holds rows
  pub finish : IsFinish p holds f
  pub end : IsEnd p holds f
  pub held : held_ticks p holds f ≡ w

-- however the visits of the place are listed, some visit may not come directly after the one before it
abbrev pub HasNoOrder : (Program → Visit → Visit → Type 0) → Program → Place → Type 0
HasNoOrder After p q = (listing : List Visit) → ListsVisits p q listing → Adjacent (After p) listing → ⊥

-- for no map and for no tasks is the program accepted, neither by awaits nor by chains
pub record IsRefusedAlways (p : Program) : Type 0 where
  pub by_await : (passable : Place → Bool) (tasks : List Task) → IsAcceptedBy ComesAfterByAwait passable tasks p → ⊥
  pub by_chain : (passable : Place → Bool) (tasks : List Task) → IsAcceptedBy ComesAfterByChain passable tasks p → ⊥

-- for these passable places and tasks the program is right, and it is numbered. But the place has no order, neither by
-- awaits nor by chains, and for that alone the program is refused
pub record IsRefusedAt (passable : Place → Bool) (tasks : List Task) (p : Program) (q : Place) : Type 0 where
  pub right : IsRight passable tasks p
  pub numbered : (number : ActionId → ℕ) × IsNumbering p number
  pub not_by_await : HasNoOrder ComesAfterByAwait p q
  pub not_by_chain : HasNoOrder ComesAfterByChain p q
  pub refused : IsRefusedAlways p
