-- The best of the plans that several orders make.
use Rattle.std.specs.Prelude.{◌≡◌, ℕ, ◌-◌, ◌<◌, ◌≤◌, max, Bool, List, [], ◌∷◌, length, slice_get, Some, ⊤}
use Rattle.fleet_model.specs.Machine.{indices}
use Rattle.fleet_model.specs.declared.geometry.Place.{Place}
use Rattle.fleet_model.specs.declared.task.Task.{Task}
use Rattle.fleet_plan.specs.Plan.{Plan}
use Rattle.fleet_search.specs.Orders.{to_front, IsMadeInOrder, IsStuckInOrder}

-- what came of an order: a plan with its measure, or the place of the agent that was left without a path
pub data Outcome : Type 0 where
  Planned : Plan → ℕ → Outcome
  NoPathAt : ℕ → Outcome

-- the place of the agent that comes first in the next order: that of the agent without a path, else the last one
abbrev pub raised_place : List ℕ → Outcome → ℕ
raised_place order (Planned plan measure) = length order - 1
raised_place order (NoPathAt place) = place

-- the next order
abbrev pub order_after : List ℕ → Outcome → List ℕ
order_after order outcome = to_front order (raised_place order outcome)

-- the order that comes after the one and these outcomes
abbrev pub order_after_all : List ℕ → List Outcome → List ℕ
order_after_all order [] = order
order_after_all order (outcome ∷ outcomes) = order_after_all (order_after order outcome) outcomes

-- this came of the order: a plan for the agents in which each path is the earliest against those before it, with its
-- measure; or the agent at the place is left without a path
abbrev pub IsOutcome : (Place → Bool) → List Task → ℕ → (Plan → ℕ → Type 0) → List ℕ → Outcome → Type 0
IsOutcome passable tasks horizon Measures order (Planned plan measure) =
    (length plan ≡ length tasks) × IsMadeInOrder passable tasks horizon order plan × Measures plan measure
IsOutcome passable tasks horizon Measures order (NoPathAt place) = IsStuckInOrder passable tasks horizon order place

-- these came of the order and of those after it, one after another
abbrev pub AreOutcomes : (Place → Bool) → List Task → ℕ → (Plan → ℕ → Type 0) → List ℕ → List Outcome → Type 0
AreOutcomes passable tasks horizon Measures order [] = ⊤
AreOutcomes passable tasks horizon Measures order (outcome ∷ outcomes) =
    IsOutcome passable tasks horizon Measures order outcome × AreOutcomes passable tasks horizon Measures (order_after order outcome) outcomes

-- the plan is the first of those with the least measure among the outcomes
pub record IsFirstLeast (outcomes : List Outcome) (plan : Plan) (measure : ℕ) : Type 0 where
  pub place : ℕ
  pub here : slice_get outcomes place ≡ Some (Planned plan measure)
  pub least : (k : ℕ) (other : Plan) (n : ℕ) → slice_get outcomes k ≡ Some (Planned other n) → measure ≤ n
  pub first : (k : ℕ) (other : Plan) (n : ℕ) → k < place → slice_get outcomes k ≡ Some (Planned other n) → measure < n

-- of the plans of the first `tries` orders (of the first if that is 0), all of which are tried, none has less, and none
-- before it has as little
pub record IsBestInTries (passable : Place → Bool) (tasks : List Task) (horizon : ℕ) (Measures : Plan → ℕ → Type 0) (tries : ℕ) (plan : Plan) (measure : ℕ) : Type 0 where
  pub outcomes : List Outcome
  pub all : length outcomes ≡ max tries 1
  pub tried : AreOutcomes passable tasks horizon Measures (indices (length tasks)) outcomes
  pub best : IsFirstLeast outcomes plan measure
