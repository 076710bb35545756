-- The schedules of a run in ticks, and how long each of its actions is held up.
use Rattle.std.specs.Prelude.{◌≡◌, ℕ, zero, suc, ◌+◌, ◌==◌, ◌&&◌, ◌↔◌, Bool, if◌then◌else◌, length, Some, option_map}
use Rattle.fleet_model.specs.declared.program.ActionId.{ActionId}
use Rattle.fleet_model.specs.Program.{Program}
use Rattle.fleet_model.specs.Machine.{Holds, run, count_at, is_ready, is_held, IsDone, IsDue}
use Rattle.fleet_model.specs.Chain.{IsAction}
use Rattle.fleet_model.specs.Schedule.{Schedule, HasBegunBy}

-- the tick after t ticks of the run finishes the action
pub record IsFinishedIn (p : Program) (holds : Holds) (t : ℕ) (a : ActionId) : Type 0 where
  pub not_before : IsDone (run p holds t) a → ⊥
  pub after : IsDone (run p holds (t + 1)) a

-- a schedule of a run: an action ends at t + 1 if the tick after t ticks finishes it, and begins at that t or at an
-- earlier one at which it was due
pub record IsScheduleOf (p : Program) (holds : Holds) (s : Schedule) : Type 0 where
  pub ends : (a : ActionId) (t : ℕ) → IsAction p a
      → (s.ends a ≡ Some t) ↔ ((u : ℕ) × IsFinishedIn p holds u a × (t ≡ u + 1))
  pub begins : (a : ActionId) (t : ℕ) → IsAction p a
      → s.begins a ≡ Some t → IsDue p (run p holds t) a
  pub begins_first : (a : ActionId) (t : ℕ) → IsAction p a
      → IsFinishedIn p holds t a → HasBegunBy s t a

-- each action begins when it is due
abbrev pub BeginsWhenDue : Program → Holds → Schedule → Type 0
BeginsWhenDue p holds s =
    (a : ActionId) (t : ℕ) → IsAction p a → IsDue p (run p holds t) a → HasBegunBy s t a

-- each action takes one tick
abbrev pub TakesOneTick : Program → Schedule → Type 0
TakesOneTick p s =
    (a : ActionId) → IsAction p a → s.ends a ≡ option_map (λ t. t + 1) (s.begins a)

-- the action is the next one of its agent, which is ready and held in the tick after t ticks
abbrev pub is_held_up : Program → Holds → ActionId → ℕ → Bool
is_held_up p holds a t =
    (a.number == count_at (run p holds t) a.agent + 1)
    && is_ready p (run p holds t) a.agent && is_held holds t a.agent

-- in how many of the first t ticks the action was held up
abbrev pub held_up_ticks : Program → Holds → ActionId → ℕ → ℕ
held_up_ticks p holds a zero = 0
held_up_ticks p holds a (suc t) =
    held_up_ticks p holds a t + (if is_held_up p holds a t then 1 else 0)

-- how many ticks the action takes from when it is due: one, and those in which it is held up
abbrev pub ticks_taken : Program → Holds → ActionId → ℕ
ticks_taken p holds a = held_up_ticks p holds a (length holds) + 1
