-- What is promised of a program that is accepted, and of a refusal.
use Rattle.std.specs.Prelude.{◌≡◌, ◌≢◌, ℕ, ◌<◌, ◌≤◌, Bool, List, length}
use Rattle.fleet_model.specs.declared.geometry.Place.{Place}
use Rattle.fleet_model.specs.declared.task.Task.{Task}
use Rattle.fleet_model.specs.declared.program.ActionId.{ActionId}
use Rattle.fleet_model.specs.declared.program.Visit.{Visit}
use Rattle.fleet_model.specs.Geometry.{place_of}
use Rattle.fleet_model.specs.Program.{Program, goal_of}
use Rattle.fleet_model.specs.Machine.{Holds, run, IsFinish}
use Rattle.fleet_model.specs.Chain.{IsAction, Reaches, IsCriticalCost}
use Rattle.fleet_model.specs.Visit.{ListsVisits, Adjacent, ComesAfter}
use Rattle.fleet_model.specs.Accepted.{HasTasks, IsAccepted}
use Rattle.fleet_model.specs.Run.{IsOwnedInTurn, Arrives, RunsRight}
use Rattle.fleet_model.specs.Progress.{Progresses, IsFinishedInTime}
use Rattle.fleet_model.specs.Schedule.{Schedule, HasBegunBy, HasEndedBy, IsSchedule, MayBeOnAt}
use Rattle.fleet_model.specs.Schedule.{IsSafeSchedule, EndInTime, TakeAtLeast, NeedsNoStalled, MayBeDoneAt}
use Rattle.fleet_verify.specs.declared.fault.VerifyFault.{VerifyFault}
use Rattle.fleet_verify.specs.declared.fault.VerifyFault.TheVariants.{OutOfMemory}
use Rattle.fleet_verify.specs.Faults.{HasRanges, IsFault, IsOfOrder}
use Rattle.fleet_verify.specs.Broken.{IsBrokenBy}

-- ---- of an accepted program

-- the visits of the place have an order in which each may come directly after the one before, and in every run they
-- begin in this order, each after the one before has been left
pub record IsVisitedInTurn (p : Program) (q : Place) : Type 0 where
  pub listing : List Visit
  pub lists : ListsVisits p q listing
  pub after : Adjacent (ComesAfter p) listing
  pub owned : (holds : Holds) (t : ℕ) → IsOwnedInTurn p listing (run p holds t)

-- the run finishes, after no fewer ticks than the longest chain has actions and no more than those and the ticks in
-- which a ready agent was held; each tick brings it on, and each action is finished in time
pub record RunsInTime (p : Program) (chain : ℕ) (holds : Holds) : Type 0 where
  pub arrives : (f : ℕ) × IsFinish p holds f × Arrives p holds chain f
  pub progress : (t : ℕ) → Progresses p holds t
  pub actions : (a : ActionId) → IsAction p a → IsFinishedInTime p holds a

-- robots that follow the schedule are safe and come to an end: what needs nothing that stalls ends by the cost of its
-- critical path; what needs an action that never ends never begins; of what has not ended, and all that it needs, some
-- action may be done; and who has done all its actions stands on its goal
pub record KeepsSchedule (passable : Place → Bool) (p : Program) (s : Schedule) : Type 0 where
  pub safe : IsSafeSchedule passable p s
  pub in_time : (stalls : ActionId → Bool) (cost : ActionId → ℕ) → EndInTime p s stalls cost
      → (b : ActionId) → IsAction p b → NeedsNoStalled p stalls b
      → (m : ℕ) × IsCriticalCost p cost b m × HasEndedBy s m b
  pub no_sooner : (cost : ActionId → ℕ) → TakeAtLeast p s cost
      → (b : ActionId) (m x : ℕ) → IsCriticalCost p cost b m → HasEndedBy s x b → m ≤ x
  pub stopped : (a b : ActionId) → Reaches p a b → a ≢ b → ((x : ℕ) → HasEndedBy s x a → ⊥)
      → (x : ℕ) → HasBegunBy s x b → ⊥
  pub never_stuck : (x : ℕ) (b : ActionId) → IsAction p b → (HasEndedBy s x b → ⊥)
      → (a : ActionId) × MayBeDoneAt p s x a × Reaches p a b
  pub on_goal : (x i : ℕ) (q : Place) → i < length p
      → ((a : ActionId) → IsAction p a → a.agent ≡ i → HasEndedBy s x a)
      → MayBeOnAt p s x i q → q ≡ place_of (goal_of p i)

-- an accepted program whose longest chain has so many actions: under every list of holds it runs right and in time, the
-- visits of each place come in turn, and by any clock, whatever time its actions take, it keeps each schedule
pub record Promises (passable : Place → Bool) (p : Program) (chain : ℕ) : Type 0 where
  pub right : RunsRight passable p
  pub in_turn : (q : Place) → IsVisitedInTurn p q
  pub in_time : (holds : Holds) → RunsInTime p chain holds
  pub schedules : (s : Schedule) → IsSchedule p s → KeepsSchedule passable p s

-- ---- of a refusal

-- the fault is the first one; unless memory was wanting, the program is not accepted, and if it is for these tasks some
-- run of it goes wrong; and a fault of its order shows how, and is the only kind if all else is right
pub record IsRefusedRightly (passable : Place → Bool) (tasks : List Task) (p : Program) (f : VerifyFault) : Type 0 where
  pub fault : IsFault passable tasks p f
  pub not_accepted : f ≢ OutOfMemory → IsAccepted passable tasks p → ⊥
  pub not_right : f ≢ OutOfMemory → HasTasks tasks p → RunsRight passable p → ⊥
  pub broken : IsBrokenBy p f
  pub of_order : HasRanges passable tasks p → IsOfOrder p f
