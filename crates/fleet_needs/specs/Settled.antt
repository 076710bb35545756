-- Awaits for which a few steps back show whether others imply them.
use Rattle.std.specs.Prelude.{◌≡◌, ◌≢◌, ℕ, ◌<◌, ◌⊎◌, Bool, List, true, false, get_or, slice_get, Option, Some, None, Vec, vec_len}
use Rattle.std.specs.declared.alloc.Global.{Global}
use Rattle.fleet_needs.specs.Words.{Await, ActionId, Program, IsAction, awaits_of, awaited}
use Rattle.fleet_needs.specs.Rows.{action_before, ByBeforeOr}
use Rattle.fleet_needs.specs.Critical.{AreLevels, Finished, critical_cost}
use Rattle.fleet_needs.specs.declared.settled.Start.{Start}

-- agent j is asked for
abbrev pub IsAsked : Vec Bool Global → ℕ → Type 0
IsAsked asked j = get_or asked.items j false ≡ true

-- the agent is flagged if that is so, and nothing else has changed
pub record IsAskedIf (is_open : Bool) (agent : ℕ) (old new : Vec Bool Global) : Type 0 where
  pub all : vec_len new ≡ vec_len old
  pub more : (j : ℕ) → IsAsked old j → IsAsked new j
  pub asks : is_open ≡ true → IsAsked new agent
  pub others : (j : ℕ) → j ≢ agent → get_or new.items j false ≡ get_or old.items j false
  pub closed : is_open ≡ false → new ≡ old

-- what a look back goes by: the levels of the program, and an action of it with its level
pub record IsLook (p : Program) (costs : List Finished) (first : Start) : Type 0 where
  pub levels : AreLevels p costs
  pub action : IsAction p first.action
  pub level : first.level ≡ critical_cost costs first.action

-- what is known of R: that it is so, that it is not, or nothing, and then this
abbrev pub IsKnown : Type 0 → Type 0 → Option Bool → Type 0
IsKnown R Open (Some true) = R
IsKnown R Open (Some false) = R → ⊥
IsKnown R Open None = Open

-- x reaches the action before a, or what one of its awaits names, but not this one
abbrev pub ReachesNeed : Program → ActionId → ActionId → ℕ → Type 0
ReachesNeed p x a but = ByBeforeOr (λ k w. k ≢ but) p x a

-- steps back from a may show that x reaches it: a is of another agent than x, and its level is greater
abbrev pub IsOpenTo : (ActionId → ℕ) → ActionId → ActionId → Type 0
IsOpenTo level x a = (x.agent ≢ a.agent) × (level x < level a)

-- it is so of the action before a, or of what one of its awaits names, but not this one
abbrev pub HasOpenNeed : Program → (ActionId → ℕ) → ActionId → ActionId → ℕ → Type 0
HasOpenNeed p level x a but =
    IsOpenTo level x (action_before a)
    ⊎ ((k : ℕ) × (w : Await) × (k ≢ but) × (slice_get (awaits_of p a.agent a.number) k ≡ Some w) × IsOpenTo level x (awaited w))
