-- The moves and actions that the compiler has found up to a step of the plan.
use Rattle.std.specs.Prelude.{◌≡◌, ℕ, ◌+◌, ◌<◌, List, length, map, filter}
use Rattle.fleet_model.specs.declared.program.Action.{Action}
use Rattle.fleet_model.specs.Machine.{indices}
use Rattle.fleet_model.specs.declared.deps.Deps.{Deps}
use Rattle.fleet_grid.specs.Ground.{Ground}
use Rattle.fleet_plan.specs.Plan.{Plan, cell_of}
use Rattle.fleet_plan.specs.UnderWay.{is_under_way}
use Rattle.fleet_code.specs.declared.format.Version.{Version}
use Rattle.fleet_code.specs.Written.{Written, written}
use Rattle.fleet_adg.specs.declared.sweep.Move.{Move}
use Rattle.fleet_adg.specs.declared.sweep.Leavings.{Leavings}
use Rattle.fleet_adg.specs.Compiled.{changes_in, changes, action_in}
use Rattle.fleet_adg.specs.Leavings.{AreLeavingsAt}

-- the agents whose paths go on after time t
abbrev pub under_way : Plan → ℕ → List ℕ
under_way plan t = filter (is_under_way plan t) (indices (length plan))

-- the agents that change their cells in the step after time t
abbrev pub movers : Plan → ℕ → List ℕ
movers plan t = filter (λ i. changes_in plan i t) (under_way plan t)

-- the change of cell by agent i in that step
abbrev pub move_by : Plan → ℕ → ℕ → Move
move_by plan t i = record { agent = i; from = cell_of plan i t; to = cell_of plan i (t + 1) }

-- the changes of cell in that step, in order of agent
abbrev pub moves_in : Plan → ℕ → List Move
moves_in plan t = map (move_by plan t) (movers plan t)

-- the actions of agent i in the steps before time t
abbrev pub actions_by : Plan → Deps → ℕ → ℕ → List Action
actions_by plan deps t i = map (action_in plan deps i) (changes plan i t)

-- the actions of each agent in the steps before time t
abbrev pub all_actions_by : Plan → Deps → ℕ → List (List Action)
all_actions_by plan deps t = map (actions_by plan deps t) (indices (length plan))

-- .. as bytes of the version
abbrev pub all_bytes_by : Plan → Deps → Version → ℕ → List Written
all_bytes_by plan deps v t = map (written v) (all_actions_by plan deps t)

-- every cell of the plan lies on the map
pub record IsOnMap (g : Ground) (plan : Plan) : Type 0 where
  pub columns : (i t : ℕ) → i < length plan → (cell_of plan i t).x < g.width
  pub rows : (i t : ℕ) → i < length plan → (cell_of plan i t).y < g.height

-- the steps before time t are swept: the table has the leavings of cells in them, and these are the bytes of the
-- actions of each agent in them
pub record AreSweptTo (g : Ground) (plan : Plan) (deps : Deps) (v : Version) (t : ℕ) (l : Leavings) (bytes : List Written) : Type 0 where
  pub leavings : AreLeavingsAt g plan deps t l
  pub actions : bytes ≡ all_bytes_by plan deps v t
