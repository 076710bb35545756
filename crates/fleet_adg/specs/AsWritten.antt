-- Plans in which no agent follows another, or few do: what a step of a plan is in its program, and the plan that a run
-- is.
use Rattle.std.specs.Prelude.{ℕ, ◌+◌, ◌<◌, ◌≤◌, IsTrue, List, [], ◌∷◌, length, map}
use Rattle.fleet_model.specs.declared.program.ActionId.{ActionId}
use Rattle.fleet_model.specs.Program.{Program}
use Rattle.fleet_model.specs.Machine.{Holds, run, indices}
use Rattle.fleet_model.specs.Conflict.{HasFollowingConflict}
use Rattle.fleet_plan.specs.Plan.{Path, Plan, motion_of}
use Rattle.fleet_verify.specs.Rest.{cell_at}
use Rattle.fleet_adg.specs.Compiled.{changes_in, moves_by}

-- a row of agents that change their cells in step x: each enters the cell on which the next one stood, the last one any
abbrev pub IsTrain : Plan → ℕ → List ℕ → Type 0
IsTrain plan x [] = Unit {0}
IsTrain plan x (i ∷ []) = IsTrue (changes_in plan i x)
IsTrain plan x (i ∷ j ∷ train) =
    (i < length plan) × HasFollowingConflict (motion_of plan) x i j × IsTrain plan x (j ∷ train)

-- in no step x a row of agents is longer than that
abbrev pub AreTrainsWithin : Plan → (ℕ → ℕ) → Type 0
AreTrainsWithin plan most = (x : ℕ) (train : List ℕ) → IsTrain plan x train → length train ≤ most x

-- the action of a plan's program in which agent i changes its cell in step x, if it changes it there
abbrev pub changing : Plan → ℕ → ℕ → ActionId
changing plan i x = record { agent = i; number = moves_by plan i (x + 1) }

-- the cells on which agent i stands after 0, 1, .., f ticks of a run
abbrev pub path_of_run : Program → Holds → ℕ → ℕ → Path
path_of_run p holds f i = map (λ t. cell_at (run p holds t) i) (indices (f + 1))

-- .. of all agents: each path has f + 1 cells, also if its agent comes to its goal before
abbrev pub plan_of_run : Program → Holds → ℕ → Plan
plan_of_run p holds f = map (path_of_run p holds f) (indices (length p))
