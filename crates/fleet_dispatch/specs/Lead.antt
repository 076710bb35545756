-- Robots that are led by a dispatch: when each action is ordered and reported, and what is promised of whatever they
-- do.
use Rattle.std.specs.Prelude.{◌≡◌, ◌≢◌, ℕ, ◌+◌, ◌<◌, ◌≤◌, Bool, true, false, IsTrue, ◌&&◌, nat_le, nat_lt, List, [], ◌∷◌, length, get_or, take, filter, replicate, Option, Some, option_map, ◌↔◌, ◌==◌, if◌then◌else◌}
use Rattle.std.specs.List.{list_any, position, flat_map}
use Rattle.std.specs.Option.{option_map_or}
use Rattle.fleet_model.specs.declared.geometry.Place.{Place}
use Rattle.fleet_model.specs.declared.program.ActionId.{ActionId}
use Rattle.fleet_model.specs.Program.{Program, moves, total_moves, path}
use Rattle.fleet_model.specs.Machine.{indices, Holds, is_among, run, count_at, is_finished}
use Rattle.fleet_model.specs.Run.{AreOnGoals}
use Rattle.fleet_model.specs.Claims.{holds_of, is_new}
use Rattle.fleet_machine.specs.Confirmed.{AreAllReady}
use Rattle.fleet_model.specs.Chain.{IsAction, DirectlyNeeds}
use Rattle.fleet_model.specs.Schedule.{Schedule, IsBy, IsSchedule, IsSafeSchedule, EndInTime}
use Rattle.fleet_model.specs.Dispatch.{Dispatch, OrdersAwait, IsCarriedOut, IsTimely}
use Rattle.fleet_dispatch.specs.Report.{Words, Counts, count_of, said_of, counts_after, Line}
use Rattle.fleet_dispatch.specs.declared.form.ReportForm.{ReportForm}
use Rattle.fleet_dispatch.specs.declared.pace.Pace.{Pace}
use Rattle.fleet_dispatch.specs.Ahead.{told_to, told_at, is_all_done}
use Rattle.fleet_dispatch.specs.Orders.{order_line, new_orders}
use Rattle.fleet_dispatch.specs.Dispatch.{Course, counts_by, told_by, configuration_at, reports_in, counts_now, due_orders, taken_now}
use Rattle.fleet_dispatch.specs.Session.{first_course}

-- nothing is carried out
abbrev pub none_done : Program → Counts
none_done p = replicate (length p) 0

-- what is carried out after the first t of these reports
abbrev pub counts_at : Program → List Words → ℕ → Counts
counts_at p reports t = counts_by (none_done p) (take t reports)

-- when t reports are taken the action is ordered, or was before
abbrev pub is_told_by : Program → ℕ → List Words → ActionId → ℕ → Bool
is_told_by p k reports a t = nat_le a.number (told_to p k (counts_at p reports t) a.agent)

-- .. or carried out
abbrev pub is_done_by : Program → List Words → ActionId → ℕ → Bool
is_done_by p reports a t = nat_le a.number (count_of (counts_at p reports t) a.agent)

-- .. or may be begun: it is ordered, and its agent has carried out all before it
abbrev pub may_begin_by : Program → ℕ → List Words → ActionId → ℕ → Bool
may_begin_by p k reports a t =
    is_told_by p k reports a t && nat_le a.number (count_of (counts_at p reports t) a.agent + 1)

-- the time of the first of these that holds, by a clock that says when 0, 1, 2 reports and so on are taken
abbrev pub first_time : (clock : ℕ → ℕ) → List Words → (ℕ → Bool) → Option ℕ
first_time clock reports test = option_map clock (position test (indices (length reports + 1)))

-- When a dispatch that takes these reports orders each action, k of an agent ahead, and when each is reported
unfoldable pub dispatch_of : (ℕ → ℕ) → Program → ℕ → List Words → Dispatch
dispatch_of clock p k reports = record {
  orders = λ a. first_time clock reports (is_told_by p k reports a);
  reports = λ a. first_time clock reports (is_done_by p reports a);
}

-- the schedule of robots that begin each action as soon as they may, and end it when that is reported
unfoldable pub schedule_of : (ℕ → ℕ) → Program → ℕ → List Words → Schedule
schedule_of clock p k reports = record {
  begins = λ a. first_time clock reports (may_begin_by p k reports a);
  ends = λ a. first_time clock reports (is_done_by p reports a);
}

-- the clock never falls
abbrev pub NeverFalls : (ℕ → ℕ) → Type 0
NeverFalls clock = (t u : ℕ) → t ≤ u → clock t ≤ clock u

-- Robots that are led by these orders and reports and carry them out, whenever and in whatever time, are safe: orders
-- wait for the reports of what they await, so whatever the robots do is a schedule, and a safe one
pub record IsSafelyLed (passable : Place → Bool) (p : Program) (d : Dispatch) : Type 0 where
  pub awaits : OrdersAwait p d
  pub schedule : (s : Schedule) → IsCarriedOut p d s → IsSchedule p s
  pub safe : (s : Schedule) → IsCarriedOut p d s → IsSafeSchedule passable p s

-- no order waits longer than it has to: an action is ordered once all that it directly needs is reported
abbrev pub OrdersAtOnce : Program → Dispatch → ℕ → Type 0
OrdersAtOnce p d start =
    (a : ActionId) (t : ℕ) → IsAction p a → start ≤ t
    → ((b : ActionId) → DirectlyNeeds p a b → IsBy (d.reports b) t) → IsBy (d.orders a) t

-- Robots that are led by these orders and reports end in time, by a clock that begins at 0: if what does not stall ends
-- within its time of its order and of the action before, and is reported within a lag, it ends within both of all that
-- it directly needs
abbrev pub LeadsInTime : Program → Dispatch → Type 0
LeadsInTime p d =
    (s : Schedule) (stalls : ActionId → Bool) (report_lag : ℕ) (takes : ActionId → ℕ)
    → IsTimely p d s stalls report_lag takes → EndInTime p s stalls (λ a. report_lag + takes a)

-- agent i may be on q, wholly or in part: so many of its actions lead it there, all that it has reported and no more
-- than it is told
pub record MayBeOnOrder (p : Program) (k : ℕ) (counts : Counts) (i : ℕ) (q : Place) : Type 0 where
  pub number : ℕ
  pub reported : count_of counts i ≤ number
  pub told : number ≤ told_to p k counts i
  pub place : path p i number ≡ q

-- all stand on their goals
abbrev pub Arrive : Program → Counts → Type 0
Arrive p counts = AreOnGoals p (configuration_at p counts)

-- the report says of some action that is not carried out that it is
abbrev pub is_news : Counts → Words → Bool
is_news counts words = list_any (λ w. nat_lt (count_of counts w.agent) (said_of counts w)) words

-- how many of these reports do
abbrev pub news_by : Counts → List Words → ℕ
news_by counts [] = 0
news_by counts (r ∷ reports) = (if is_news counts r then 1 else 0) + news_by (counts_after counts r) reports

-- What is promised of a dispatch that took these reports, k orders of an agent ahead. Robots that carry out its orders
-- are safe, and end in time. No order is taken back, so each action is ordered once; agents that stand where they have
-- reported to be, or are anywhere on what they are told, have no place in common, and each such place is passable;
-- while an action is left some agent has an order that it has not reported; at most as many reports say something new
-- as there are actions, and after as many all stand on their goals, as they do once all is carried out
pub record LeadsWell (passable : Place → Bool) (p : Program) (k : ℕ) (reports : List Words) : Type 0 where
  pub safely : (clock : ℕ → ℕ) → NeverFalls clock → IsSafelyLed passable p (dispatch_of clock p k reports)
  pub in_time : (clock : ℕ → ℕ) → NeverFalls clock → clock 0 ≡ 0 → 1 ≤ k → LeadsInTime p (dispatch_of clock p k reports)
  pub once : (t u i : ℕ) → t ≤ u → u ≤ length reports → i < length p
      → told_to p k (counts_at p reports t) i ≤ told_to p k (counts_at p reports u) i
  pub apart : (i j : ℕ) (q : Place) → i < length p → j < length p → i ≢ j
      → MayBeOnOrder p k (counts_by (none_done p) reports) i q → MayBeOnOrder p k (counts_by (none_done p) reports) j q → ⊥
  pub on_ground : (i : ℕ) (q : Place) → i < length p
      → MayBeOnOrder p k (counts_by (none_done p) reports) i q → IsTrue (passable q)
  pub goes_on : 1 ≤ k → is_all_done p (counts_by (none_done p) reports) ≡ false
      → (i : ℕ) × (i < length p) × (count_of (counts_by (none_done p) reports) i < told_to p k (counts_by (none_done p) reports) i)
  pub few : news_by (none_done p) reports ≤ total_moves p
  pub short : news_by (none_done p) reports ≡ total_moves p → Arrive p (counts_by (none_done p) reports)
  pub arrive : is_all_done p (counts_by (none_done p) reports) ≡ true → Arrive p (counts_by (none_done p) reports)

-- ---- what is told

-- the clock rises with each report
abbrev pub Rises : (ℕ → ℕ) → Type 0
Rises clock = (t u : ℕ) → t < u → clock t < clock u

-- the action is ordered at time x
abbrev pub is_ordered_at : Dispatch → ℕ → ActionId → Bool
is_ordered_at d x a = option_map_or (λ t. t == x) (d.orders a) false

-- the orders of agent i for those of its actions that are ordered at time x, in turn
abbrev pub agent_orders_at : Program → ReportForm → Dispatch → ℕ → ℕ → List ℕ
agent_orders_at p form d x i =
    flat_map (λ n. if is_ordered_at d x (record { agent = i; number = n + 1 }) then order_line p form i n else []) (indices (moves p i))

-- .. of all agents, in rising order of agent
unfoldable pub orders_at : Program → ReportForm → Dispatch → ℕ → List ℕ
orders_at p form d x = flat_map (agent_orders_at p form d x) (indices (length p))

-- the action is told as soon as t reports are taken: its agent was told fewer before, and is told as many now
abbrev pub IsToldAt : Program → ℕ → List Words → ℕ → ActionId → Type 0
IsToldAt p k reports t a =
    (count_of (told_by p k (none_done p) (none_done p) (take t reports)) a.agent < a.number)
    × (a.number ≤ told_to p k (counts_at p reports t) a.agent)

-- What is told is what `dispatch_of` orders: after the first t of these lines those orders are due that it gives at the
-- time of the last of them, by every clock that rises; and by any clock it orders an action at the time of the report
-- with which the action is told, and at no other
pub record TellsWhatIsOrdered (p : Program) (pace : Pace) (lines : List Line) : Type 0 where
  pub said : (clock : ℕ → ℕ) (t : ℕ) → Rises clock → t ≤ length lines
      → due_orders (first_course p pace) (take t lines)
      ≡ orders_at p pace.form (dispatch_of clock p pace.ahead (reports_in lines)) (clock t)
  pub when : (clock : ℕ → ℕ) (a : ActionId) (x : ℕ) → IsAction p a
      → (((dispatch_of clock p pace.ahead (reports_in lines)).orders a ≡ Some x)
      ↔ ((t : ℕ) × (t ≤ length lines) × (clock t ≡ x) × IsToldAt p pace.ahead (reports_in lines) t a))

-- ---- a dispatch that goes on

-- the dispatch that begins where these lines have led another
abbrev pub resumed : Course → List Line → Course
resumed d log = record {
  program = d.program;
  form = d.form;
  ahead = d.ahead;
  start = counts_now d log;
  before = taken_now d log;
}

-- after these lines each, two dispatches say the same orders, and have taken as many reports
pub record SaysAlike (d e : Course) (lines others : List Line) : Type 0 where
  pub counts : counts_now d lines ≡ counts_now e others
  pub orders : due_orders d lines ≡ due_orders e others
  pub taken : taken_now d lines ≡ taken_now e others

-- ---- a dispatch that gives one order at a time, and the machine

-- the agents that have carried out more by the report
abbrev pub movers : Program → Counts → Words → List ℕ
movers p counts words =
    filter (λ i. nat_lt (count_of counts i) (count_of (counts_after counts words) i)) (indices (length p))

-- .. by each of these reports
abbrev pub movers_by : Program → Counts → List Words → List (List ℕ)
movers_by p counts [] = []
movers_by p counts (r ∷ reports) = movers p counts r ∷ movers_by p (counts_after counts r) reports

-- the holds that hold with each of these reports all agents but those that have carried out more by it
abbrev pub holds_by : Program → List Words → Holds
holds_by p reports = holds_of (length p) (movers_by p (none_done p) reports)

-- the orders that are due after t ticks of a run under these holds and were not before, in rising order of agent
unfoldable pub orders_in_run : Program → ReportForm → Holds → ℕ → List ℕ
orders_in_run p form holds t =
    flat_map (λ i. if is_new p holds t i then order_line p form i (count_at (run p holds t) i) else []) (indices (length p))

-- A dispatch that took these reports and gives one order at a time is the run of the machine under the holds of all
-- others: each agent stands where it does in the run, and all is carried out when the run is finished; those that have
-- carried out more by a report were ready; and the orders that are due are those of the agents that are ready, and have
-- not still the order that they had before
pub record IsRun (p : Program) (form : ReportForm) (reports : List Words) : Type 0 where
  pub here : configuration_at p (counts_by (none_done p) reports) ≡ run p (holds_by p reports) (length reports)
  pub finished : is_all_done p (counts_by (none_done p) reports) ≡ is_finished p (run p (holds_by p reports) (length reports))
  pub answers : (t : ℕ) → t < length reports
      → AreAllReady p (run p (holds_by p reports) t) (is_among (movers p (counts_at p reports t) (get_or reports t [])))
  pub orders : new_orders p form (told_by p 1 (none_done p) (none_done p) reports) (told_at p 1 (counts_by (none_done p) reports))
      ≡ orders_in_run p form (holds_by p reports) (length reports)
