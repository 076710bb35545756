-- A schedule of rows, and the counts of rows in their slots.
use Rattle.std.specs.Prelude.{◌≡◌, ◌≢◌, true, cond, ℕ, ◌+◌, ◌-◌, ◌*◌, ◌^◌, ◌<◌, ◌≤◌, ◌⊎◌, Bool, List, length, slice_index, slice_get, Some, Vec}
use Rattle.std.specs.declared.alloc.Global.{Global}
use Rattle.fleet_needs.specs.Words.{ActionId, Await, Program, awaits_of, moves, AreInRange, IsAction, awaited}
use Rattle.fleet_needs.specs.Block.{HasColumn}
use Rattle.fleet_needs.specs.Columns.{AreColumns, agents_in}
use Rattle.fleet_needs.specs.Counts.{counts_of, count_from, are_narrow, made_row}
use Rattle.fleet_needs.specs.Joins.{AreOwn, AreRising, AreStanding, HasAllRows, HasRowUnlessSet, IsAwaiting, RowTable, StandsFor, action_at, base_of, end_of, need_at, rows_of}
use Rattle.fleet_needs.specs.Rows.{IsColumn}
use Rattle.fleet_needs.specs.Slots.{AreSlotted, IsStill, SlotTable, rows_in}
use Rattle.fleet_needs.specs.declared.join_pass.Columns.{Columns}
use Rattle.fleet_needs.specs.declared.schedule.Join.{Join}
use Rattle.fleet_needs.specs.declared.schedule.Joins.{Joins}
use Rattle.fleet_needs.specs.declared.schedule.Need.{Need}
use Rattle.fleet_needs.specs.declared.schedule.Schedule.{Schedule}
use Rattle.fleet_needs.specs.declared.schedule.TheConstants.{COUNTS}
use Rattle.fleet_needs.specs.declared.join_pass.SlotRows.{SlotRows}

-- the actions whose rows it has, in their order
abbrev pub joins_of : Schedule → List ActionId
joins_of s = rows_of s.joins

-- how many these are
abbrev pub joins_in : Schedule → ℕ
joins_in s = length (joins_of s)

-- the action of the join after n others
abbrev pub next_action : Schedule → ℕ → ActionId
next_action s n = action_at (joins_of s) n

-- so many counts of its rows may be kept at once
abbrev pub counts_at_once : Schedule → ℕ
counts_at_once s = cond s.is_narrow (2 * COUNTS) COUNTS

-- the join after n others takes row r
abbrev pub TakesIn : Joins → ℕ → ℕ → Type 0
TakesIn x n r = (n < length (rows_of x)) × ((r ≡ base_of x n) ⊎ ((place : ℕ) × (end_of x n ≤ place) × (place < end_of x (n + 1)) × (r ≡ (need_at x place).row)))

-- the rows that joins take are listed, and made before
pub record AreInOrder (x : Joins) : Type 0 where
  pub few : length (rows_of x) < 2 ^ 32 - 1
  pub all : length x.ends.items ≡ length (rows_of x) + 1
  pub within : (n : ℕ) → n < length (rows_of x) → end_of x (n + 1) ≤ length x.awaits.items
  pub sooner : (n r : ℕ) → TakesIn x n r → r ≤ n

-- a need is that of an await, and its row stands for the awaited action
pub record IsNeedFor (p : Program) (rows : List ActionId) (w : Await) (x : Need) : Type 0 where
  pub wait : x.wait ≡ w
  pub stands : StandsFor p rows x.row w.agent w.count

-- the row after n others, that of action a, is joined of rows that stand for what the action needs
pub record IsJoinFor (p : Program) (x : Joins) (n : ℕ) (a : ActionId) : Type 0 where
  pub is : IsAwaiting p a
  pub base : StandsFor p (rows_of x) (base_of x n) a.agent (a.number - 1)
  pub count : end_of x (n + 1) ≡ end_of x n + length (awaits_of p a.agent a.number)
  pub awaits : (k : ℕ) (w : Await) → slice_get (awaits_of p a.agent a.number) k ≡ Some w → IsNeedFor p (rows_of x) w (need_at x (end_of x n + k))

-- each action that adds a chain has a row, and each row is joined so; awaits name actions of the program
pub record AreRows (p : Program) (x : Joins) : Type 0 where
  pub order : AreInOrder x
  pub joins : (n : ℕ) → n < length (rows_of x) → IsJoinFor p x n (action_at (rows_of x) n)
  pub rows : HasAllRows p (rows_of x)
  pub rising : AreRising (rows_of x)
  pub own : AreOwn p
  pub range : AreInRange p

-- each action has a row there, or flags that are set for all its awaits; and rows stand for all actions
pub record AreRowsBut (p : Program) (flags : List Bool) (x : Joins) (m : RowTable) : Type 0 where
  pub rows : AreRows p x
  pub standing : AreStanding p (rows_of x) m
  pub passed : HasRowUnlessSet p flags (rows_of x)

-- each row is joined so, and still in its slot whenever it is taken
pub record IsSchedule (p : Program) (s : Schedule) : Type 0 where
  pub made : AreRows p s.joins
  pub all : length s.outs.items ≡ joins_in s + 1
  pub within : (r : ℕ) → r ≤ joins_in s → slice_index s.outs.items r < s.slots
  pub still : (n r : ℕ) → TakesIn s.joins n r → IsStill s.outs.items r n
  pub narrow : s.is_narrow ≡ true → (i : ℕ) → i < length p → moves p i ≤ 65535

-- the rows are those of a schedule, and there is a flag for each agent of the program, whether its columns are asked for
pub record AreOfProgram (p : Program) (m : SlotRows) : Type 0 where
  pub schedule : IsSchedule p m.schedule
  pub agents : length m.asked.items ≡ length p

-- .. these flags, and no block has come
pub record AreUnmade (p : Program) (agents : Vec Bool Global) (m : SlotRows) : Type 0 where
  pub of : AreOfProgram p m
  pub asked : m.asked ≡ agents
  pub first : m.columns.end ≡ 0

-- .. of these rows
pub record AreRowsFor (p : Program) (x : Joins) (agents : Vec Bool Global) (m : SlotRows) : Type 0 where
  pub rows : AreUnmade p agents m
  pub joins : m.schedule.joins ≡ x

-- .. among which each action has one, or flags that are set for all its awaits
pub record AreRowsUnless (p : Program) (flags : List Bool) (agents : Vec Bool Global) (m : SlotRows) : Type 0 where
  pub rows : AreUnmade p agents m
  pub passed : HasRowUnlessSet p flags (joins_of m.schedule)

-- of these rows, those after the first n have slots, and what their joins take
pub record AreSlottedFrom (x : Joins) (n : ℕ) (m : SlotTable) : Type 0 where
  pub order : AreInOrder x
  pub upto : n ≤ length (rows_of x)
  pub rows : rows_in m ≡ length (rows_of x) + 1
  pub slotted : AreSlotted (TakesIn x) n n m

-- all rows have slots, so many, in which each stays as long as joins take it
pub record AreAllSlotted (x : Joins) (outs : Vec ℕ Global) (slots : ℕ) : Type 0 where
  pub all : length outs.items ≡ length (rows_of x) + 1
  pub within : (r : ℕ) → r ≤ length (rows_of x) → slice_index outs.items r < slots
  pub still : (n r : ℕ) → TakesIn x n r → IsStill outs.items r n

-- the slot of row r
abbrev pub slot_of : Schedule → ℕ → ℕ
slot_of s r = slice_index s.outs.items r

-- the columns are of agents of the program, no two in one
pub record AreColumnsOf (p : Program) (columns : Columns) : Type 0 where
  pub agents : agents_in columns ≡ length p
  pub within : (j k : ℕ) → HasColumn columns j k → k < columns.width
  pub apart : (i j k : ℕ) → HasColumn columns i k → HasColumn columns j k → i ≡ j

-- the counts, by column, are those of action n of agent i, but 0 in the agent's own column
abbrev pub AreCounts : Program → Columns → ℕ → ℕ → (ℕ → ℕ) → Type 0
AreCounts p columns i n count =
    (j k : ℕ) → HasColumn columns j k → (j ≢ i → IsColumn p (record { agent = i; number = n }) j (count k)) × (j ≡ i → count k ≡ 0)

-- row r stands for this action of the program, or for none if the number is 0
pub record StandsThere (p : Program) (s : Schedule) (r i n : ℕ) : Type 0 where
  pub agent : i < length p
  pub last : n ≤ moves p i
  pub stands : StandsFor p (joins_of s) r i n

-- the counts, by column, are those of what row r stands for
abbrev pub AreRowCounts : Program → Schedule → Columns → ℕ → (ℕ → ℕ) → Type 0
AreRowCounts p s columns r count = (i n : ℕ) → StandsThere p s r i n → AreCounts p columns i n count

-- the counts in the slot of row r
abbrev pub count_in_slot : SlotRows → ℕ → ℕ → ℕ
count_in_slot m r = count_from m.counts (slot_of m.schedule r * m.columns.width)

-- in a block of columns each of the first n rows that is still in its slot has the counts of what it stands for; row 0
-- has zeros. The row that is made has a count for each column
pub record AreRowsTo (p : Program) (m : SlotRows) (n : ℕ) : Type 0 where
  pub schedule : IsSchedule p m.schedule
  pub block : AreColumns m.asked.items m.columns.first m.columns
  pub columns : AreColumnsOf p m.columns
  pub room : length (counts_of m.counts) ≡ m.schedule.slots * m.columns.width
  pub width : length (made_row m.counts) ≡ m.columns.width
  pub narrow : are_narrow m.counts ≡ m.schedule.is_narrow
  pub right : (r : ℕ) → r ≤ n → IsStill m.schedule.outs.items r n → AreRowCounts p m.schedule m.columns r (count_in_slot m r)

-- the join after n others, which is made for action a: where its awaits begin, how many they are, and what the join's
-- base stands for
pub record IsNextJoin (p : Program) (s : Schedule) (n : ℕ) (a : ActionId) (j : Join) : Type 0 where
  pub schedule : IsSchedule p s
  pub next : n < joins_in s
  pub of : j.action ≡ next_action s n
  pub first : j.first ≡ end_of s.joins n
  pub action : IsAction p a
  pub count : j.count ≡ length (awaits_of p a.agent a.number)
  pub some : 1 ≤ j.count
  pub base : TakesIn s.joins n j.base
  pub stands : StandsThere p s j.base a.agent (a.number - 1)

-- .. and its need k: for which await that is, and what its row stands for
pub record IsNextNeed (p : Program) (s : Schedule) (n : ℕ) (a : ActionId) (k : ℕ) (x : Need) : Type 0 where
  pub await : slice_get (awaits_of p a.agent a.number) k ≡ Some x.wait
  pub action : IsAction p (awaited x.wait)
  pub row : TakesIn s.joins n x.row
  pub stands : StandsThere p s x.row x.wait.agent x.wait.count
