-- Rows of levels that climb.
use Rattle.std.specs.Prelude.{ℕ, zero, suc, ◌+◌, ◌-◌, List, [], ◌∷◌, ◌++◌, length, slice_index}

-- the last level of the row, or 0
abbrev pub last_level : List ℕ → ℕ
last_level row = slice_index row (length row - 1)

-- the row, and n levels after it, each one above the one before
abbrev pub climbed_by : ℕ → List ℕ → List ℕ
climbed_by zero row = row
climbed_by (suc n) row = climbed_by n row ++ (last_level (climbed_by n row) + 1) ∷ []

-- the row, and after it as many such levels as make it so long
abbrev pub climbed : List ℕ → ℕ → List ℕ
climbed row count = climbed_by (count - length row) row
