-- Small programs whose actions take times of their own, and what is said of their schedules.
use Rattle.std.specs.Prelude.{ℕ, ◌-◌, Bool, ◌==◌, ◌&&◌, List, [], Option, Some, None, get_or}
use Rattle.fleet_model.specs.declared.program.ActionId.{ActionId}
use Rattle.fleet_model.specs.Program.{Program}
use Rattle.fleet_model.specs.Schedule.{Schedule, HasBegunBy, HasEndedBy, IsSchedule, EndInTime, TakeAtLeast}

-- when one action begins and when it ends, if it does
pub record Times : Type 0 where
  pub begins : Option ℕ
  pub ends : Option ℕ

-- from one time to another
abbrev pub lasts : ℕ → ℕ → Times
lasts t u = record { begins = Some t; ends = Some u }

-- begun at a time, and never ended
abbrev pub stalls_from : ℕ → Times
stalls_from t = record { begins = Some t; ends = None }

-- never begun
abbrev pub stopped : Times
stopped = record { begins = None; ends = None }

-- what stands in these rows for the action: a row for each agent, with one entry for each of its actions
abbrev pub entry : {T : Type 0} → List (List T) → ActionId → T → T
entry rows a none = get_or (get_or rows a.agent []) (a.number - 1) none

-- the schedule with these times
abbrev pub schedule_with : List (List Times) → Schedule
schedule_with rows = record {
  begins = λ a. (entry rows a stopped).begins;
  ends = λ a. (entry rows a stopped).ends;
}

-- how long each action takes
abbrev pub cost_of : List (List ℕ) → ActionId → ℕ
cost_of rows a = entry rows a 0

-- the second action of agent i
abbrev pub is_second_of : ℕ → ActionId → Bool
is_second_of i a = a.agent == i && a.number == 2

-- A schedule in which each action that does not stall begins and ends as soon as it may, and each takes its cost
pub record IsSoonest (p : Program) (stalls : ActionId → Bool) (cost : ActionId → ℕ)
    (s : Schedule) : Type 0 where
  pub schedule : IsSchedule p s
  pub in_time : EndInTime p s stalls cost
  pub at_least : TakeAtLeast p s cost

-- in every schedule in which a never ends b never begins
abbrev pub Stops : Program → ActionId → ActionId → Type 0
Stops p a b =
    (s : Schedule) → IsSchedule p s → ((t : ℕ) → HasEndedBy s t a → ⊥)
    → (t : ℕ) → HasBegunBy s t b → ⊥
