-- What is carried out and told, and who is to be looked at next.
use Rattle.std.specs.Prelude.{◌≡◌, ◌≢◌, ℕ, ◌+◌, ◌*◌, ◌<◌, ◌≤◌, ◌⊎◌, Bool, true, false, not, nat_lt, ◌==◌, List, ◌++◌, length, get_or, set, take, All, Contains, Option, Some, None, MatchOption}
use Rattle.std.specs.List.{find}
use Rattle.std.specs.Option.{option_map_or}
use Rattle.fleet_model.specs.declared.geometry.Dir.TheVariants.{North, East, South, West}
use Rattle.fleet_model.specs.declared.geometry.Place.{Place}
use Rattle.fleet_model.specs.declared.geometry.Step.{Step}
use Rattle.fleet_model.specs.declared.geometry.Step.TheVariants.{Go, Dwell}
use Rattle.fleet_model.specs.declared.program.Await.{Await}
use Rattle.fleet_model.specs.Program.{Program, moves, path, awaits_of}
use Rattle.fleet_machine.specs.Machine.{flag_of}
use Rattle.fleet_machine.specs.WaitLists.{WaitState, home_of}
use Rattle.fleet_dispatch.specs.declared.form.ReportForm.{ReportForm}
use Rattle.fleet_dispatch.specs.declared.orders.TheConstants.{ORDER}
use Rattle.fleet_dispatch.specs.declared.pace.Pace.{Pace}
use Rattle.fleet_dispatch.specs.Report.{Words, Counts, count_of, said_of}
use Rattle.fleet_dispatch.specs.Ahead.{is_done, told_at}
use Rattle.fleet_dispatch.specs.Orders.{order_line, agent_orders, new_orders}

-- How many of its actions each agent has carried out, and how many it is told; where those that it is told lead it; in
-- whose list it stands that waits; whether it is to be looked at; and whether an action is left to it
pub record ProgressState : Type 0 where
  pub done : Counts
  pub told : Counts
  pub places : List Place
  pub waiting : WaitState
  pub due : List Bool
  pub left : List Bool

-- the step that leads back
abbrev pub back : Step → Step
back (Go North) = Go South
back (Go East) = Go West
back (Go South) = Go North
back (Go West) = Go East
back Dwell = Dwell

-- all that action n of agent i awaits is carried out
abbrev pub AreDone : Program → Counts → ℕ → ℕ → Type 0
AreDone p counts i n = (w : Await) → Contains (awaits_of p i n) w → w.count ≤ count_of counts w.agent

-- an await of action n of agent i, and of an agent of the program, that is not carried out
pub record IsMissing (p : Program) (counts : Counts) (i n : ℕ) (w : Await) : Type 0 where
  pub is_await : Contains (awaits_of p i n) w
  pub agent : w.agent < length p
  pub unmet : count_of counts w.agent < w.count

-- agent i is told the first n of its actions, and may be: it is told no more than k that it has not carried out, and of
-- each of these all that it awaits is carried out
pub record MayBeTold (p : Program) (k : ℕ) (counts : Counts) (i n : ℕ) : Type 0 where
  pub from : count_of counts i ≤ n
  pub within : n ≤ moves p i
  pub few : n ≤ count_of counts i + k
  pub met : (m : ℕ) → count_of counts i < m → m ≤ n → AreDone p counts i m

-- the next action of agent i that it is not told awaits one of agent j that is not carried out
pub record LacksOf (p : Program) (s : ProgressState) (i j : ℕ) : Type 0 where
  pub awaited : Await
  pub is_await : Contains (awaits_of p i (count_of s.told i + 1)) awaited
  pub agent : awaited.agent ≡ j
  pub unmet : count_of s.done j < awaited.count

-- agent i stands in no list and is told all that it can be, or in the list of one that it waits for
abbrev pub IsSettled : Program → ℕ → ProgressState → ℕ → Option ℕ → Type 0
IsSettled p k s i None = (moves p i ≤ count_of s.told i) ⊎ (count_of s.done i + k ≤ count_of s.told i)
IsSettled p k s i (Some j) = LacksOf p s i j

-- the rows are as long as the program has agents
pub record HasRows (p : Program) (s : ProgressState) : Type 0 where
  pub done : length s.done ≡ length p
  pub told : length s.told ≡ length p
  pub places : length s.places ≡ length p
  pub homes : length s.waiting.homes ≡ length p
  pub lists : s.waiting.lists ≡ length p
  pub due : length s.due ≡ length p
  pub left : length s.left ≡ length p

-- what is told may be told, and who is not to be looked at is settled, or free not to be
pub record LeadsBut (free : ℕ → Bool) (p : Program) (k : ℕ) (s : ProgressState) : Type 0 where
  pub rows : HasRows p s
  pub told : (i : ℕ) → i < length p → MayBeTold p k s.done i (count_of s.told i)
  pub places : (i : ℕ) (q : Place) → i < length p → get_or s.places i q ≡ path p i (count_of s.told i)
  pub nowhere : (i : ℕ) → i < length p → flag_of s.due i ≡ true → home_of s.waiting.homes i ≡ None
  pub settled : (i : ℕ) → i < length p → flag_of s.due i ≡ false → free i ≡ false
      → IsSettled p k s i (home_of s.waiting.homes i)
  pub left : (i : ℕ) → i < length p → flag_of s.left i ≡ nat_lt (count_of s.done i) (moves p i)

-- .. and nobody is free
abbrev pub Leads : Program → ℕ → ProgressState → Type 0
Leads = LeadsBut (λ i. false)

-- of each agent the place to which so many of its actions lead it
pub record ArePlacesAfter (p : Program) (counts : Counts) (found : List Place) : Type 0 where
  pub agents : length found ≡ length p
  pub places : (i : ℕ) (q : Place) → i < length p → get_or found i q ≡ path p i (count_of counts i)

-- so much is carried out, no more is told, and that may be told at every pace
pub record HasBegun (p : Program) (counts : Counts) (s : ProgressState) : Type 0 where
  pub leads : (k : ℕ) → Leads p k s
  pub done : s.done ≡ counts
  pub told : s.told ≡ counts

-- the first await of action n of agent i that is not carried out, if it has one
pub record IsFirstMissing (p : Program) (counts : Counts) (i n : ℕ) (found : Option Await) : Type 0 where
  pub missing : MatchOption found (AreDone p counts i n) (IsMissing p counts i n)
  pub first : found ≡ find (λ w. not (is_done counts w)) (awaits_of p i n)

-- agent i of the program has an action that it is not told, and its place is where those lead it that it is told
pub record HasUntold (p : Program) (s : ProgressState) (i : ℕ) : Type 0 where
  pub agent : i < length p
  pub left : count_of s.told i < moves p i
  pub place : (q : Place) → get_or s.places i q ≡ path p i (count_of s.told i)

-- agent i is told its next action, and the order stands in the row behind those that end at `at`
pub record TellsNext (p : Program) (form : ReportForm) (s s' : ProgressState) (i : ℕ) (row row' : List ℕ) (at end : ℕ) : Type 0 where
  pub told : s' ≡ record s {
    told = set s.told i (count_of s.told i + 1);
    places = set s.places i (path p i (count_of s.told i + 1));
  }
  pub high : end ≤ at + ORDER
  pub written : take end row' ≡ take at row ++ order_line p form i (count_of s.told i)

-- agent i is told more, and nobody else; nothing more is carried out
pub record TellsMore (s s' : ProgressState) (i : ℕ) : Type 0 where
  pub done : s'.done ≡ s.done
  pub left : s'.left ≡ s.left
  pub rises : count_of s.told i ≤ count_of s'.told i
  pub others : (j : ℕ) → j ≢ i → count_of s'.told j ≡ count_of s.told j

-- agent i was looked at and is told all that it can be, and its orders stand in the row behind those that end at `at`
pub record TellsAgent (p : Program) (pace : Pace) (s s' : ProgressState) (i : ℕ) (row row' : List ℕ) (at end : ℕ) : Type 0 where
  pub leads : Leads p pace.ahead s'
  pub told : TellsMore s s' i
  pub due : s'.due ≡ set s.due i false
  pub high : end ≤ at + ORDER * pace.ahead
  pub written : take end row' ≡ take at row ++ agent_orders p pace.form i (count_of s.told i) (count_of s'.told i)

-- all agents are told all that they can be, and the orders stand at the front of the row
pub record TellsAll (p : Program) (pace : Pace) (s s' : ProgressState) (row' : List ℕ) (end : ℕ) : Type 0 where
  pub leads : Leads p pace.ahead s'
  pub done : s'.done ≡ s.done
  pub told : s'.told ≡ told_at p pace.ahead s.done
  pub within : end ≤ length row'
  pub written : take end row' ≡ new_orders p pace.form s.told s'.told

-- so much is carried out now, no more is told, and what may be told at a pace may be still
pub record CarriesOut (p : Program) (s s' : ProgressState) (counts : Counts) : Type 0 where
  pub leads : (k : ℕ) → Leads p k s → Leads p k s'
  pub done : s'.done ≡ counts
  pub told : s'.told ≡ s.told

-- so many agents carry out no more than they are to, in a program of as many
pub record AreCounts (p : Program) (counts : Counts) : Type 0 where
  pub agents : length counts ≡ length p
  pub within : (i : ℕ) → i < length p → count_of counts i ≤ moves p i

-- each word names an agent of the program
abbrev pub AreAgents : Program → Words → Type 0
AreAgents p words = All (λ w. w.agent < length p) words

-- .. and only actions that it is told
abbrev pub AreTold : Program → ProgressState → Words → Type 0
AreTold p s words = All (λ w. (w.agent < length p) × (said_of s.done w ≤ count_of s.told w.agent)) words

-- agent j, which waited for agent i, waits no more, and is to be looked at
pub record IsWoken (s s' : ProgressState) (i j : ℕ) : Type 0 where
  pub agent : j < length s.waiting.homes
  pub waited : home_of s.waiting.homes j ≡ Some i
  pub woken : s' ≡ record s { waiting = record s.waiting { homes = set s.waiting.homes j None }; due = set s.due j true }

-- agent j waits for agent i, or is agent i and waits for nobody
abbrev pub is_woken : List (Option ℕ) → ℕ → ℕ → Bool
is_woken homes i j = option_map_or (λ a. a == i) (home_of homes j) (j == i)
