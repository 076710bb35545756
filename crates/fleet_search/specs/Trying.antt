-- Orders that are tried one after another, to find the best of their plans.
use Rattle.std.specs.Prelude.{◌≡◌, ℕ, List, length, slice_get, Option, Some, None, ⊤}
use Rattle.fleet_model.specs.Machine.{indices}
use Rattle.fleet_plan.specs.Plan.{Plan}
use Rattle.fleet_grid.specs.Ground.{is_passable}
use Rattle.fleet_search.specs.Orders.{IsOrderAfter}
use Rattle.fleet_search.specs.Attempts.{IsTurn, IsFor}
use Rattle.fleet_search.specs.Best.{Outcome, Planned, NoPathAt, order_after, order_after_all, IsOutcome, AreOutcomes, IsFirstLeast}
use Rattle.fleet_search.specs.declared.orders.Problem.{Problem}
use Rattle.fleet_search.specs.declared.orders.Turn.{Turn}
use Rattle.fleet_search.specs.declared.best.Measured.{Measured}
use Rattle.fleet_search.specs.declared.best.Tried.{Tried}
use Rattle.fleet_search.specs.declared.best.Tried.TheVariants as t

-- what came of an order, as a value
abbrev pub outcome_of : Tried → Outcome
outcome_of (t.Planned m) = Planned m.checked.plan m.measure
outcome_of (t.NoPathAt place) = NoPathAt place

-- a plan is for the problem
abbrev pub IsTriedFor : Problem → Tried → Type 0
IsTriedFor problem (t.Planned m) = IsFor problem m.checked
IsTriedFor problem (t.NoPathAt place) = ⊤

-- this came of the order, and the next one has its turn
pub record IsTried (problem : Problem) (Measures : Plan → ℕ → Type 0) (old new : List ℕ) (tried : Tried) : Type 0 where
  pub outcome : IsOutcome (is_passable problem.grid.now) problem.instance.now problem.horizon Measures old (outcome_of tried)
  pub next : new ≡ order_after old (outcome_of tried)
  pub right : IsTriedFor problem tried

-- the same of turns
pub record IsTriedInTurn (problem : Problem) (Measures : Plan → ℕ → Type 0) (old new : Turn) (came : Tried) : Type 0 where
  pub turn : IsTurn problem new
  pub tried : IsTried problem Measures old.order.items new.order.items came

-- the best of the plans so far: none, as long as each order left an agent without a path; or the first of the least
abbrev pub IsBestOf : Problem → (order : List ℕ) → List Outcome → Option Measured → Type 0
IsBestOf problem order outcomes None =
    ((k : ℕ) (plan : Plan) (n : ℕ) → slice_get outcomes k ≡ Some (Planned plan n) → ⊥)
    × IsOrderAfter (is_passable problem.grid.now) problem.instance.now problem.horizon (length outcomes) order
IsBestOf problem order outcomes (Some m) = IsFirstLeast outcomes m.checked.plan m.measure × IsFor problem m.checked

-- so many orders were tried, and this is the best of their plans
pub record IsBestSoFar (problem : Problem) (Measures : Plan → ℕ → Type 0) (order : List ℕ) (tried : ℕ) (best : Option Measured) : Type 0 where
  pub outcomes : List Outcome
  pub all : length outcomes ≡ tried
  pub came : AreOutcomes (is_passable problem.grid.now) problem.instance.now problem.horizon Measures (indices (length problem.instance.now)) outcomes
  pub next : order ≡ order_after_all (indices (length problem.instance.now)) outcomes
  pub is_best : IsBestOf problem order outcomes best
