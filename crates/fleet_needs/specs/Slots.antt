-- Slots for rows, given from the last row back to the first: each row is kept until it was taken for the last time.
use Rattle.std.specs.Prelude.{◌≡◌, ◌≢◌, ℕ, ◌<◌, ◌≤◌, List, length, get_or, slice_index, Option, Some, None}

-- no row after row r, among the first n, was put into its slot
abbrev pub IsStill : List ℕ → ℕ → ℕ → Type 0
IsStill outs r n = (m : ℕ) → r < m → m ≤ n → slice_index outs m ≢ slice_index outs r

-- slots: for each row, from row 0 on, its slot, once it has one, and for each slot the row that has it
pub record SlotTable : Type 0 where
  pub outs : List ℕ
  pub owners : List (Option ℕ)

-- how many rows there are, with row 0
abbrev pub rows_in : SlotTable → ℕ
rows_in m = length m.outs

-- the slot of row r, if it has one
abbrev pub slot_in : SlotTable → ℕ → ℕ
slot_in m r = slice_index m.outs r

-- how many slots there are
abbrev pub slots_in : SlotTable → ℕ
slots_in m = length m.owners

-- the row that has slot x, if one has
abbrev pub owner_of : SlotTable → ℕ → Option ℕ
owner_of m x = get_or m.owners x None

-- row r has a slot
abbrev pub HasSlotNow : SlotTable → ℕ → Type 0
HasSlotNow m r = owner_of m (slot_in m r) ≡ Some r

-- the rows after the first n have their slots for good, in each of which what is taken stays as long as joins after the
-- first `from` take it; and what these take of the first n has a slot
pub record AreSlotted (Takes : ℕ → ℕ → Type 0) (from n : ℕ) (m : SlotTable) : Type 0 where
  pub within : (r : ℕ) → n < r → r < rows_in m → slot_in m r < slots_in m
  pub taken : (k r : ℕ) → from ≤ k → Takes k r → r ≤ n → HasSlotNow m r
  pub still : (k r x : ℕ) → from ≤ k → Takes k r → r < x → n < x → x ≤ k → slot_in m x ≢ slot_in m r

-- no row has the slot, and no other has changed hands
pub record IsFree (slot : ℕ) (old new : SlotTable) : Type 0 where
  pub within : slot < slots_in new
  pub none : owner_of new slot ≡ None
  pub more : slots_in old ≤ slots_in new
  pub same : (x : ℕ) → owner_of new x ≡ owner_of old x
  pub outs : new.outs ≡ old.outs

-- row r has a slot, and each that had one has kept it
pub record IsHeld (r : ℕ) (old new : SlotTable) : Type 0 where
  pub rows : rows_in new ≡ rows_in old
  pub more : slots_in old ≤ slots_in new
  pub here : HasSlotNow new r
  pub kept : (x : ℕ) → HasSlotNow old x → HasSlotNow new x × (slot_in new x ≡ slot_in old x)
  pub others : (x : ℕ) → x ≢ r → slot_in new x ≡ slot_in old x
