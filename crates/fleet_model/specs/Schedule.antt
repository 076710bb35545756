-- Schedules: when, by any clock, each action of a program begins and ends, whatever time it takes.
use Rattle.std.specs.Prelude.{◌≡◌, ◌≢◌, ℕ, ◌+◌, ◌<◌, ◌≤◌, Bool, IsTrue, IsFalse, length, Option, Some}
use Rattle.fleet_model.specs.declared.geometry.Place.{Place}
use Rattle.fleet_model.specs.declared.program.ActionId.{ActionId}
use Rattle.fleet_model.specs.Program.{Program, moves, path}
use Rattle.fleet_model.specs.Chain.{IsAction, DirectlyNeeds, Reaches}

-- when each action begins and when it ends, if ever: an agent may break down, and a schedule may be looked at before
-- its end
pub record Schedule : Type 0 where
  pub begins : ActionId → Option ℕ
  pub ends : ActionId → Option ℕ

-- there is such a time, and it is x or before
abbrev pub IsBy : Option ℕ → ℕ → Type 0
IsBy time x = (t : ℕ) × (time ≡ Some t) × (t ≤ x)

-- the action has begun at time x or before
abbrev pub HasBegunBy : Schedule → ℕ → ActionId → Type 0
HasBegunBy s x a = IsBy (s.begins a) x

-- the action has ended at time x or before
abbrev pub HasEndedBy : Schedule → ℕ → ActionId → Type 0
HasEndedBy s x a = IsBy (s.ends a) x

-- an action that ends has begun by then
abbrev pub BeginsFirst : Program → Schedule → Type 0
BeginsFirst p s = (a : ActionId) (t : ℕ) → IsAction p a → s.ends a ≡ Some t → HasBegunBy s t a

-- an action begins only when all that it directly needs has ended, and ends only when it has begun
pub record IsSchedule (p : Program) (s : Schedule) : Type 0 where
  pub needs_end : (a b : ActionId) (t : ℕ) → IsAction p a → DirectlyNeeds p a b
      → s.begins a ≡ Some t → HasEndedBy s t b
  pub begins_first : BeginsFirst p s

-- at time x agent i may be on q, wholly or in part: a number of its actions leads it to q, the last of these has begun
-- (it needs none for its start), and the next one has not ended (after its last one it stays)
pub record MayBeOnAt (p : Program) (s : Schedule) (x i : ℕ) (q : Place) : Type 0 where
  pub position : ℕ
  pub within : position ≤ moves p i
  pub place : path p i position ≡ q
  pub entered : 1 ≤ position → HasBegunBy s x (record { agent = i; number = position })
  pub not_left : position < moves p i
      → HasEndedBy s x (record { agent = i; number = position + 1 }) → ⊥

-- no two agents may ever be on one place, not even in part, and each place that an agent may be on is passable
pub record IsSafeSchedule (passable : Place → Bool) (p : Program) (s : Schedule) : Type 0 where
  pub apart : (x i j : ℕ) (q : Place) → i < length p → j < length p → i ≢ j
      → MayBeOnAt p s x i q → MayBeOnAt p s x j q → ⊥
  pub on_ground : (x i : ℕ) (q : Place) → i < length p → MayBeOnAt p s x i q → IsTrue (passable q)

-- each action that does not stall ends within its cost of any time by which all that it directly needs has ended
abbrev pub EndInTime : Program → Schedule → (ActionId → Bool) → (ActionId → ℕ) → Type 0
EndInTime p s stalls cost =
    (a : ActionId) (t : ℕ) → IsAction p a → IsFalse (stalls a)
    → ((b : ActionId) → DirectlyNeeds p a b → HasEndedBy s t b) → HasEndedBy s (t + cost a) a

-- each action takes at least its cost
abbrev pub TakeAtLeast : Program → Schedule → (ActionId → ℕ) → Type 0
TakeAtLeast p s cost =
    (a : ActionId) (t u : ℕ) → IsAction p a
    → s.begins a ≡ Some t → s.ends a ≡ Some u → t + cost a ≤ u

-- the action needs none that stalls, and does not stall itself
abbrev pub NeedsNoStalled : Program → (ActionId → Bool) → ActionId → Type 0
NeedsNoStalled p stalls b = (a : ActionId) → IsTrue (stalls a) → Reaches p a b → ⊥

-- at time x the action has not ended, and all that it directly needs has, so that its agent may carry it out
pub record MayBeDoneAt (p : Program) (s : Schedule) (x : ℕ) (a : ActionId) : Type 0 where
  pub action : IsAction p a
  pub unended : HasEndedBy s x a → ⊥
  pub needs_ended : (b : ActionId) → DirectlyNeeds p a b → HasEndedBy s x b
