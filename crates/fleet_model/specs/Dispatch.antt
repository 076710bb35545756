-- Orders and reports: how robots are led through a program by what they report.
use Rattle.std.specs.Prelude.{◌≡◌, ℕ, ◌+◌, Bool, IsFalse, Option, Some, Contains}
use Rattle.fleet_model.specs.declared.program.Await.{Await}
use Rattle.fleet_model.specs.declared.program.ActionId.{ActionId}
use Rattle.fleet_model.specs.Program.{Program, awaits_of}
use Rattle.fleet_model.specs.Chain.{IsAction, DirectlyNeeds, awaited}
use Rattle.fleet_model.specs.Schedule.{Schedule, IsBy, HasEndedBy, BeginsFirst}

-- when each action is ordered, and when its end is reported, if ever
pub record Dispatch : Type 0 where
  pub orders : ActionId → Option ℕ
  pub reports : ActionId → Option ℕ

-- an action is ordered only when the ends of all that it awaits have been reported, though its agent may still be busy
-- with earlier ones
abbrev pub OrdersAwait : Program → Dispatch → Type 0
OrdersAwait p d =
    (a : ActionId) (w : Await) (t : ℕ) → IsAction p a → Contains (awaits_of p a.agent a.number) w
    → d.orders a ≡ Some t → IsBy (d.reports (awaited w)) t

-- the actions of each agent are carried out in turn, each after it was ordered, and each end is reported no sooner than
-- it comes
pub record IsCarriedOut (p : Program) (d : Dispatch) (s : Schedule) : Type 0 where
  pub ordered_first : (a : ActionId) (t : ℕ) → IsAction p a
      → s.begins a ≡ Some t → IsBy (d.orders a) t
  pub in_turn : (a b : ActionId) (t : ℕ) → IsAction p a → IsAction p b
      → a.agent ≡ b.agent → a.number ≡ b.number + 1 → s.begins a ≡ Some t → HasEndedBy s t b
  pub begins_first : BeginsFirst p s
  pub ends_first : (a : ActionId) (t : ℕ) → IsAction p a
      → d.reports a ≡ Some t → HasEndedBy s t a

-- what does not stall ends within its time of its order and of the end of the agent's action before, and each end is
-- reported within a lag
pub record IsTimely (p : Program) (d : Dispatch) (s : Schedule) (stalls : ActionId → Bool)
    (report_lag : ℕ) (takes : ActionId → ℕ) : Type 0 where
  pub ends : (a : ActionId) (t : ℕ) → IsAction p a → IsFalse (stalls a) → IsBy (d.orders a) t
      → ((b : ActionId) → IsAction p b
      → a.agent ≡ b.agent → a.number ≡ b.number + 1 → HasEndedBy s t b)
      → HasEndedBy s (t + takes a) a
  pub reports : (a : ActionId) (t : ℕ) → IsAction p a
      → HasEndedBy s t a → IsBy (d.reports a) (t + report_lag)

-- .. and is ordered within another lag of the reports of all that it directly needs
pub record IsPrompt (p : Program) (d : Dispatch) (s : Schedule) (stalls : ActionId → Bool)
    (report_lag order_lag : ℕ) (takes : ActionId → ℕ) : Type 0 where
  pub timely : IsTimely p d s stalls report_lag takes
  pub orders : (a : ActionId) (t : ℕ) → IsAction p a → IsFalse (stalls a)
      → ((b : ActionId) → DirectlyNeeds p a b → IsBy (d.reports b) t)
      → IsBy (d.orders a) (t + order_lag)
