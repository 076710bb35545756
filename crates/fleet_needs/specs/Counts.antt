-- The counts of rows, as they are kept.
use Rattle.std.specs.Prelude.{◌≡◌, ◌≢◌, ℕ, ◌<◌, ◌≤◌, Bool, true, false, List, length, max, get_or, slice_index, ◌+◌}
use Rattle.fleet_needs.specs.declared.counts.Counts.{Counts}

-- the counts that are kept, one after another
abbrev pub counts_of : Counts → List ℕ
counts_of (Counts.Narrow all row) = all.items
counts_of (Counts.Wide all row) = all.items

-- those of the row that is made
abbrev pub made_row : Counts → List ℕ
made_row (Counts.Narrow all row) = row.items
made_row (Counts.Wide all row) = row.items

-- what stands from this place on
abbrev pub from_place : List ℕ → ℕ → ℕ → ℕ
from_place xs from k = slice_index xs (from + k)

-- the counts that are kept from this place on
abbrev pub count_from : Counts → ℕ → ℕ → ℕ
count_from m = from_place (counts_of m)

-- they take two bytes each
abbrev pub are_narrow : Counts → Bool
are_narrow (Counts.Narrow all row) = true
are_narrow (Counts.Wide all row) = false

-- there are bytes enough for this count
abbrev pub CanHold : Counts → ℕ → Type 0
CanHold m n = are_narrow m ≡ true → n ≤ 65535

-- the same are kept, and the row is as wide
pub record AreKept (old new : Counts) : Type 0 where
  pub all : counts_of new ≡ counts_of old
  pub width : length (made_row new) ≡ length (made_row old)
  pub narrow : are_narrow new ≡ are_narrow old

-- zeros, so many, of two bytes each or of four, and a row of them that is so wide
pub record AreZeros (len wide : ℕ) (is_narrow : Bool) (m : Counts) : Type 0 where
  pub all : length (counts_of m) ≡ len
  pub width : length (made_row m) ≡ wide
  pub narrow : are_narrow m ≡ is_narrow
  pub zeros : (k : ℕ) → slice_index (counts_of m) k ≡ 0
  pub row : (k : ℕ) → slice_index (made_row m) k ≡ 0

-- the count of the row at a place is now this one, and all others are as they were
pub record IsSet (k count : ℕ) (old new : Counts) : Type 0 where
  pub kept : AreKept old new
  pub here : slice_index (made_row new) k ≡ count
  pub others : (n : ℕ) → n ≢ k → slice_index (made_row new) n ≡ slice_index (made_row old) n

-- at each place is now the greater one of these two
abbrev pub AreMost : (ℕ → ℕ) → (ℕ → ℕ) → List ℕ → List ℕ → Type 0
AreMost one other old new = (k : ℕ) → k < length old → slice_index new k ≡ max (one k) (other k)

-- each count of the row is now the greater one of these two
pub record AreGreater (one other : ℕ → ℕ) (old new : Counts) : Type 0 where
  pub kept : AreKept old new
  pub counts : AreMost one other (made_row old) (made_row new)

-- from a place on are now these, and all others are as they were
pub record IsPut {X : Type 0} (from : ℕ) (these old new : List X) : Type 0 where
  pub all : length new ≡ length old
  pub row : (d : X) (k : ℕ) → k < length these → get_or new (from + k) d ≡ get_or these k d
  pub before : (d : X) (n : ℕ) → n < from → get_or new n d ≡ get_or old n d
  pub after : (d : X) (n : ℕ) → from + length these ≤ n → get_or new n d ≡ get_or old n d

-- the counts from a place on are now those of the row, which is as it was, and so are all others
pub record AreWritten (from : ℕ) (old new : Counts) : Type 0 where
  pub same : made_row new ≡ made_row old
  pub narrow : are_narrow new ≡ are_narrow old
  pub all : length (counts_of new) ≡ length (counts_of old)
  pub row : (k : ℕ) → k < length (made_row old) → count_from new from k ≡ slice_index (made_row old) k
  pub before : (n : ℕ) → n < from → slice_index (counts_of new) n ≡ slice_index (counts_of old) n
  pub after : (n : ℕ) → from + length (made_row old) ≤ n → slice_index (counts_of new) n ≡ slice_index (counts_of old) n
