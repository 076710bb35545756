-- The first fault of a plan: by kind in the order of the refusals, and within a kind as each says.
use Rattle.std.specs.Prelude.{◌≡◌, ◌≢◌, ℕ, ◌+◌, ◌<◌, ◌≤◌, Bool, IsTrue, List, [], length, get_or, slice_get, Some, ◌⊎◌, All, Contains, EachIndex}
use Rattle.fleet_model.specs.declared.geometry.Place.{Place}
use Rattle.fleet_model.specs.declared.task.Task.{Task}
use Rattle.fleet_model.specs.Geometry.{place_of}
use Rattle.fleet_model.specs.Conflict.{HasVertexConflict, HasSwappingConflict, HasCycleConflict}
use Rattle.fleet_plan.specs.Plan.{Path, Plan, cell_at, cell_of, last_cell, motion_of, AreBeside}
use Rattle.fleet_plan.specs.declared.plan_fault.Conflict.{Conflict}
use Rattle.fleet_plan.specs.declared.plan_fault.Conflict.TheVariants.{Vertex, Swapping, Cycle}
use Rattle.fleet_plan.specs.declared.plan_fault.PlanFault.{PlanFault}
use Rattle.fleet_plan.specs.declared.plan_fault.PlanFault.TheVariants as fault

-- ---- agents

-- the least agent for which it is not so
pub record IsFirstFaultyAgent (plan : Plan) (IsRight : ℕ → Type 0) (i : ℕ) : Type 0 where
  pub agent : i < length plan
  pub wrong : IsRight i → ⊥
  pub least : (k : ℕ) → k < i → IsRight k

-- the first cell of the agent is its start
abbrev pub StartsOnStart : List Task → Plan → ℕ → Type 0
StartsOnStart tasks plan i = (t : Task) → slice_get tasks i ≡ Some t → cell_of plan i 0 ≡ t.start

-- the last cell of the agent is its goal
abbrev pub EndsOnGoal : List Task → Plan → ℕ → Type 0
EndsOnGoal tasks plan i = (t : Task) → slice_get tasks i ≡ Some t → last_cell plan i ≡ t.goal

-- ---- steps

-- the cell of the path at time t is passable, and it is the cell before or one of its neighbours
pub record IsRightAt (passable : Place → Bool) (path : Path) (t : ℕ) : Type 0 where
  pub on_ground : IsTrue (passable (place_of (cell_at path t)))
  pub successive : (s : ℕ) → t ≡ s + 1 → AreBeside (cell_at path s) (cell_at path t)

-- the path is right at each time
abbrev pub GoesOver : (Place → Bool) → Path → Type 0
GoesOver passable path = (t : ℕ) → IsRightAt passable path t

-- the least time at which the path is not right
pub record IsFirstTime (passable : Place → Bool) (path : Path) (t : ℕ) : Type 0 where
  pub wrong : IsRightAt passable path t → ⊥
  pub least : (s : ℕ) → s < t → IsRightAt passable path s

-- the path of agent i
abbrev pub path_of : Plan → ℕ → Path
path_of plan i = get_or plan i []

-- the path of agent i is right at each time
abbrev pub GoesRight : (Place → Bool) → Plan → ℕ → Type 0
GoesRight passable plan i = GoesOver passable (path_of plan i)

-- the least agent that goes wrong, and the least time at which it does so
pub record IsFirstStep (passable : Place → Bool) (plan : Plan) (i t : ℕ) : Type 0 where
  pub agent : i < length plan
  pub time : IsFirstTime passable (path_of plan i) t
  pub least : (k : ℕ) → k < i → GoesRight passable plan k

-- ---- conflicts

-- the agents, the least of which is named, move in a ring in step x
pub record IsCycle (plan : Plan) (x least : ℕ) (ring : List ℕ) : Type 0 where
  pub agents : All (λ i. i < length plan) ring
  pub conflict : HasCycleConflict (motion_of plan) x ring
  pub among : Contains ring least
  pub least_one : All (λ i. least ≤ i) ring

-- the plan has this conflict
abbrev pub HasConflict : Plan → Conflict → Type 0
HasConflict plan (Vertex x i j) = (i < j) × (j < length plan) × HasVertexConflict (motion_of plan) x i j
HasConflict plan (Swapping x i j) = (i < j) × (j < length plan) × HasSwappingConflict (motion_of plan) x i j
HasConflict plan (Cycle x least) = (ring : List ℕ) × IsCycle plan x least ring

-- the time of the conflict, or the one from which its step leads
abbrev pub time_of : Conflict → ℕ
time_of (Vertex x i j) = x
time_of (Swapping x i j) = x
time_of (Cycle x least) = x

-- the pair of agents is the other one, or comes before it
abbrev pub IsPairUpTo : ℕ → ℕ → ℕ → ℕ → Type 0
IsPairUpTo i j k l = (i < k) ⊎ ((i ≡ k) × (j ≤ l))

-- at one time the conflict is the other one or comes before it: by kind, then by agents
abbrev pub IsKindUpTo : Conflict → Conflict → Type 0
IsKindUpTo (Vertex x i j) (Vertex y k l) = IsPairUpTo i j k l
IsKindUpTo (Vertex x i j) (Swapping y k l) = Unit {0}
IsKindUpTo (Vertex x i j) (Cycle y b) = Unit {0}
IsKindUpTo (Swapping x i j) (Vertex y k l) = ⊥
IsKindUpTo (Swapping x i j) (Swapping y k l) = IsPairUpTo i j k l
IsKindUpTo (Swapping x i j) (Cycle y b) = Unit {0}
IsKindUpTo (Cycle x a) (Vertex y k l) = ⊥
IsKindUpTo (Cycle x a) (Swapping y k l) = ⊥
IsKindUpTo (Cycle x a) (Cycle y b) = a ≤ b

-- the conflict is the other one or comes before it: by time, then by kind, then by agents
abbrev pub IsConflictUpTo : Conflict → Conflict → Type 0
IsConflictUpTo c d = (time_of c < time_of d) ⊎ ((time_of c ≡ time_of d) × IsKindUpTo c d)

-- no conflict of the plan comes before it
pub record IsFirstConflict (plan : Plan) (c : Conflict) : Type 0 where
  pub conflict : HasConflict plan c
  pub first : (d : Conflict) → HasConflict plan d → IsConflictUpTo c d

-- no agents of the plan are in conflict, at any time
abbrev pub HasNoConflict : Plan → Type 0
HasNoConflict plan = (c : Conflict) → HasConflict plan c → ⊥

-- ---- faults

-- there are as many agents as tasks, and each begins and ends as its task says
pub record HasStartsAndGoals (tasks : List Task) (plan : Plan) : Type 0 where
  pub agents : length plan ≡ length tasks
  pub starts : EachIndex plan (StartsOnStart tasks plan)
  pub goals : EachIndex plan (EndsOnGoal tasks plan)

-- the fault is one of the plan, and all that is judged before it is right
abbrev pub IsFirstPlanFault : (Place → Bool) → List Task → Plan → PlanFault → Type 0
IsFirstPlanFault passable tasks plan fault.OutOfMemory = ⊥
IsFirstPlanFault passable tasks plan fault.Agents = length plan ≢ length tasks
IsFirstPlanFault passable tasks plan (fault.Start i) = (length plan ≡ length tasks) × IsFirstFaultyAgent plan (StartsOnStart tasks plan) i
IsFirstPlanFault passable tasks plan (fault.Goal i) = (length plan ≡ length tasks) × EachIndex plan (StartsOnStart tasks plan) × IsFirstFaultyAgent plan (EndsOnGoal tasks plan) i
IsFirstPlanFault passable tasks plan (fault.Step i t) = HasStartsAndGoals tasks plan × IsFirstStep passable plan i t
IsFirstPlanFault passable tasks plan (fault.Conflict c) = HasStartsAndGoals tasks plan × EachIndex plan (GoesRight passable plan) × IsFirstConflict plan c
