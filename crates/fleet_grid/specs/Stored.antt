-- How a map keeps its cells: eight to a byte, the first in the lowest bit. Each row begins with a byte of its own.
use Rattle.std.specs.Prelude.{◌≡◌, ℕ, zero, suc, ◌+◌, ◌-◌, ◌*◌, ◌/◌, ◌%◌, ◌==◌, ◌≤◌, Bool, false, List, [], ◌∷◌, ◌++◌, length, take, drop, replicate}
use Rattle.fleet_grid.specs.declared.grid.TheConstants.{MAX_SIDE}
use Rattle.fleet_grid.specs.Ground.{Ground, passable_cells}

-- the lowest k bits of a number, the lowest first
unfoldable pub bits_of : (k n : ℕ) → List Bool
bits_of zero n = []
bits_of (suc k) n = (n % 2 == 1) ∷ bits_of k (n / 2)

-- the cells that the bytes keep
unfoldable pub stored_cells : List ℕ → List Bool
stored_cells [] = []
stored_cells (b ∷ bytes) = bits_of 8 b ++ stored_cells bytes

-- how many bytes keep so many cells
abbrev pub byte_count : ℕ → ℕ
byte_count n = (n + 7) / 8

-- cells, and blocked ones up to the end of their last byte
unfoldable pub with_padding : List Bool → List Bool
with_padding cells = cells ++ replicate (8 * byte_count (length cells) - length cells) false

-- cells in a line, cut into rows of w cells, each of which begins p cells after the one before
unfoldable pub rows_of : (w p h : ℕ) → List Bool → List (List Bool)
rows_of w p zero cells = []
rows_of w p (suc h) cells = take w cells ∷ rows_of w p h (drop p cells)

-- the ground that the bytes keep
abbrev pub ground_of : (w h : ℕ) → List ℕ → Ground
ground_of w h bytes = record { width = w; height = h; rows = rows_of w (8 * byte_count w) h (stored_cells bytes) }

-- a map of these sizes is kept in the bytes, and n of its cells are passable
pub record IsStored (w h n : ℕ) (bytes : List ℕ) : Type 0 where
  pub width : w ≤ MAX_SIDE
  pub height : h ≤ MAX_SIDE
  pub size : length bytes ≡ byte_count w * h
  pub count : n ≡ passable_cells (ground_of w h bytes)
