-- A pass over the rows of a schedule: the row that is next.
use Rattle.std.specs.Prelude.{◌≡◌, ◌≢◌, ℕ, ◌+◌, ◌<◌, ◌≤◌, Bool, true, false, List, length, slice_index}
use Rattle.fleet_needs.specs.Words.{ActionId, Program, awaits_of}
use Rattle.fleet_needs.specs.Block.{HasColumn}
use Rattle.fleet_needs.specs.Rows.{IsJoined, OfOthers}
use Rattle.fleet_needs.specs.Counts.{AreKept, made_row}
use Rattle.fleet_needs.specs.Schedule.{joins_in, next_action, AreCounts, AreRowsTo}
use Rattle.fleet_needs.specs.declared.join_pass.Columns.{Columns}
use Rattle.fleet_needs.specs.declared.counts.Counts.{Counts}
use Rattle.fleet_needs.specs.declared.join_pass.SlotRows.{SlotRows}

-- the row of all that the action directly needs, but for the count of each awaited action's own agent; nothing is said
-- of the own agent's column
abbrev pub AreOthers : Program → Columns → ActionId → List ℕ → Type 0
AreOthers p columns a row =
    (j k : ℕ) → HasColumn columns j k → j ≢ a.agent → IsJoined (OfOthers j (length (awaits_of p a.agent a.number))) p a j (slice_index row k)

-- the row's count in the agent's own column, if it has one, is now this of what it was, and all others are as they were
pub record HasOwnSet (columns : Columns) (agent : ℕ) (set : ℕ → ℕ) (old new : Counts) : Type 0 where
  pub kept : AreKept old new
  pub own : (k : ℕ) → HasColumn columns agent k → slice_index (made_row new) k ≡ set (slice_index (made_row old) k)
  pub others : (j k : ℕ) → j ≢ agent → HasColumn columns j k → slice_index (made_row new) k ≡ slice_index (made_row old) k

-- the row of the action
abbrev pub AreWhole : Program → Columns → ActionId → List ℕ → Type 0
AreWhole p columns a row = AreCounts p columns a.agent a.number (slice_index row)

-- the rows are still of the same schedule, in the same columns
pub record AreOfSame (old new : SlotRows) : Type 0 where
  pub schedule : new.schedule ≡ old.schedule
  pub asked : new.asked ≡ old.asked
  pub columns : new.columns ≡ old.columns

-- the first n rows are made, and the next is half made: of all that its action directly needs, but for the count of each
-- awaited action's own agent
pub record IsHalfMade (p : Program) (m : SlotRows) (n : ℕ) : Type 0 where
  pub rows : AreRowsTo p m n
  pub next : n < joins_in m.schedule
  pub others : AreOthers p m.columns (next_action m.schedule n) (made_row m.counts)

-- .. or it is made, with these counts too
pub record IsMade (p : Program) (m : SlotRows) (n : ℕ) : Type 0 where
  pub rows : AreRowsTo p m (n + 1)
  pub next : n < joins_in m.schedule
  pub whole : AreWhole p m.columns (next_action m.schedule n) (made_row m.counts)

-- none of a block's rows is made yet, and the one that is made has zeros
pub record IsBegun (p : Program) (m : SlotRows) : Type 0 where
  pub rows : AreRowsTo p m 0
  pub zeros : (k : ℕ) → slice_index (made_row m.counts) k ≡ 0

-- a block is begun where the one before ended, unless that was the last
pub record IsNextBlock (p : Program) (old new : SlotRows) (is_one : Bool) : Type 0 where
  pub schedule : new.schedule ≡ old.schedule
  pub asked : new.asked ≡ old.asked
  pub some : is_one ≡ true → (new.columns.first ≡ old.columns.end) × IsBegun p new
  pub none : is_one ≡ false → length p ≤ old.columns.end
