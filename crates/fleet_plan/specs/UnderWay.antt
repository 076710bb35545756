-- The agents whose paths go on, as a row that is looked at in place of all agents.
use Rattle.std.specs.Prelude.{◌≡◌, ℕ, ◌+◌, ◌-◌, ◌<◌, ◌≤◌, nat_lt, Bool, List, length, slice_index, All, ◌⊎◌}
use Rattle.fleet_model.specs.declared.limits.TheConstants.{MAX_AGENTS}
use Rattle.fleet_plan.specs.Plan.{Plan}
use Rattle.fleet_plan.specs.FirstFault.{path_of}

-- the agent stands in the row, at place k or after it
pub record IsComing (row : List ℕ) (k i : ℕ) : Type 0 where
  pub at : ℕ
  pub later : k ≤ at
  pub within : at < length row
  pub here : slice_index row at ≡ i

-- each of n agents that stands nowhere in the row is so
abbrev pub IsSoForOthers : List ℕ → ℕ → (ℕ → Type 0) → Type 0
IsSoForOthers row n P = (i : ℕ) → i < n → IsComing row 0 i ⊎ P i

-- the path of the agent goes on after time t
abbrev pub is_under_way : Plan → ℕ → ℕ → Bool
is_under_way plan t i = nat_lt t (length (path_of plan i) - 1)

-- all are agents of the plan, among them each one whose path goes on after time t
pub record Covers (plan : Plan) (t : ℕ) (row : List ℕ) : Type 0 where
  pub few : length row ≤ MAX_AGENTS
  pub agents : All (λ i. i < length plan) row
  pub others : IsSoForOthers row (length plan) (λ i. length (path_of plan i) ≤ t + 1)
