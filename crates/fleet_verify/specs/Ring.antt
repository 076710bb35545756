-- Rings of needs.
use Rattle.std.specs.Prelude.{◌≡◌, ℕ, ◌+◌, ◌-◌, ◌<◌, ◌≤◌, List, length, All, slice_get, Some, ◌⊎◌}
use Rattle.fleet_model.specs.declared.program.ActionId.{ActionId}
use Rattle.fleet_model.specs.Program.{Program}
use Rattle.fleet_model.specs.Chain.{IsAction, DirectlyNeeds}

-- each action directly needs the one before, and the first needs the last
pub record IsRing (p : Program) (ring : List ActionId) : Type 0 where
  pub actions : All (IsAction p) ring
  pub next : (k : ℕ) (a b : ActionId) → slice_get ring k ≡ Some a → slice_get ring (k + 1) ≡ Some b → DirectlyNeeds p b a
  pub closes : (a b : ActionId) → slice_get ring 0 ≡ Some a → slice_get ring (length ring - 1) ≡ Some b → DirectlyNeeds p a b

-- a is b, or an action of an agent before, or an earlier action of the agent
abbrev pub IsActionUpTo : ActionId → ActionId → Type 0
IsActionUpTo a b = (a.agent < b.agent) ⊎ ((a.agent ≡ b.agent) × (a.number ≤ b.number))

-- a ring of at least one action, each once, of which the first is the least
pub record IsToldRing (p : Program) (ring : List ActionId) : Type 0 where
  pub some : 0 < length ring
  pub around : IsRing p ring
  pub once : (j k : ℕ) (a : ActionId) → slice_get ring j ≡ Some a → slice_get ring k ≡ Some a → j ≡ k
  pub least : (a : ActionId) → slice_get ring 0 ≡ Some a → All (IsActionUpTo a) ring
