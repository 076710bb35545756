-- Plans in which no agent follows another.
use Rattle.std.specs.Prelude.{◌≡◌, ◌≢◌, ℕ, ◌<◌, List, length, slice_index}
use Rattle.fleet_model.specs.Conflict.{HasFollowingConflict}
use Rattle.fleet_plan.specs.Plan.{Plan, motion_of}

-- no agent ever stands where another stood one time before. If no two stand on one cell: no agent enters a cell in the
-- step in which another leaves it
abbrev pub IsApart : Plan → Type 0
IsApart plan = (x i j : ℕ) → i < length plan → j < length plan → HasFollowingConflict (motion_of plan) x i j → ⊥

-- some agent follows another in step x
abbrev pub HasFollowing : Plan → ℕ → Type 0
HasFollowing plan x = (i j : ℕ) × (i < length plan) × (j < length plan) × HasFollowingConflict (motion_of plan) x i j

-- an agent other than agent i is in the place
abbrev pub IsTakenFrom : List ℕ → ℕ → ℕ → Type 0
IsTakenFrom places i place = (j : ℕ) × (j ≢ i) × (j < length places) × (slice_index places j ≡ place)
