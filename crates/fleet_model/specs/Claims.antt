-- Moves that take time: which places an agent claims while it stands or moves.
use Rattle.std.specs.Prelude.{◌≡◌, ◌≢◌, ℕ, zero, suc, ◌+◌, ◌<◌, ◌≤◌, ◌⊎◌, Bool, IsTrue, not, ◌&&◌, List, length, map, filter, Option, Some, None, option_map, if◌then◌else◌}
use Rattle.fleet_model.specs.declared.geometry.Place.{Place}
use Rattle.fleet_model.specs.declared.geometry.Step.{Step}
use Rattle.fleet_model.specs.Geometry.{stepped}
use Rattle.fleet_model.specs.Program.{Program}
use Rattle.fleet_model.specs.Machine.{Configuration, Holds, is_among, is_held, indices, run, standing_at, place_at, count_at, next_action, is_ready}

-- the order that agent i may be given: the step of its next action, if it is ready
abbrev pub order_of : Program → Configuration → ℕ → Option Step
order_of p c i = if is_ready p c i then option_map (λ a. a.step) (next_action p c i) else None

-- agent i has an order, and it leads to q (an order to stay leads to where it stands)
abbrev pub IsSentTo : Program → Configuration → ℕ → Place → Type 0
IsSentTo p c i q = (s : Step) × (order_of p c i ≡ Some s) × (q ≡ stepped (place_at c i) s)

-- agent i stands on q, or has an order that leads to it
abbrev pub Claims : Program → Configuration → ℕ → Place → Type 0
Claims p c i q = (q ≡ place_at c i) ⊎ IsSentTo p c i q

-- whatever the agents claim is passable, and no two of them claim the same place
pub record AreApart (passable : Place → Bool) (p : Program) (c : Configuration) : Type 0 where
  pub on_ground : (i : ℕ) (q : Place) → i < length p → Claims p c i q → IsTrue (passable q)
  pub apart : (i j : ℕ) (q : Place) → i < length p → j < length p → i ≢ j → Claims p c i q → Claims p c j q → ⊥

-- from c to d agent i has stayed, and keeps its order, if it had one
pub record KeepsOrder (p : Program) (c d : Configuration) (i : ℕ) : Type 0 where
  pub stays : standing_at d i ≡ standing_at c i
  pub order : (s : Step) → order_of p c i ≡ Some s → order_of p d i ≡ Some s

-- after t ticks agent i may be on its way to q, or on it: it claimed q at some time up to then, and has finished
-- nothing since
pub record MayBeOn (p : Program) (holds : Holds) (t i : ℕ) (q : Place) : Type 0 where
  pub since : ℕ
  pub before : since ≤ t
  pub nothing_since : count_at (run p holds since) i ≡ count_at (run p holds t) i
  pub claimed : Claims p (run p holds since) i q

-- after t ticks an order is to be given to agent i: it has one, and is not still on its way by the one that it had
-- before
abbrev pub is_new : Program → Holds → ℕ → ℕ → Bool
is_new p holds zero i = is_ready p (run p holds zero) i
is_new p holds (suc t) i = is_ready p (run p holds (suc t)) i && not (is_ready p (run p holds t) i && is_held holds t i)

-- how many orders agent i is given in t ticks and after them
abbrev pub orders_given : Program → Holds → ℕ → ℕ → ℕ
orders_given p holds zero i = if is_new p holds zero i then 1 else 0
orders_given p holds (suc t) i = orders_given p holds t i + (if is_new p holds (suc t) i then 1 else 0)

-- for reports of which each names the agents that have finished their moves: the holds that hold all others, of n
-- agents
abbrev pub holds_of : ℕ → List (List ℕ) → Holds
holds_of n reports = map (λ done. filter (λ i. not (is_among done i)) (indices n)) reports
