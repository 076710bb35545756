-- A map as a value: its sizes, and which of its cells are passable.
use Rattle.std.specs.Prelude.{◌≡◌, ℕ, ◌+◌, ◌*◌, ◌≤◌, ◌<◌, Bool, false, List, [], length, get_or, ℤ, pos, negsuc, sum_by, count_by, All, ◌⊎◌}
use Rattle.fleet_model.specs.declared.geometry.Cell.{Cell}
use Rattle.fleet_model.specs.declared.geometry.Place.{Place}
use Rattle.fleet_model.specs.declared.limits.TheConstants.{MAX_COORDINATE}
use Rattle.fleet_grid.specs.declared.grid.TheConstants.{MAX_SIDE}

-- rows from north to south, each with its cells from west to east: whether the cell is passable
pub record Ground : Type 0 where
  pub width : ℕ
  pub height : ℕ
  pub rows : List (List Bool)

-- whether the cell in column x, row y is passable. Off the map none is
abbrev pub is_ground_at : Ground → ℕ → ℕ → Bool
is_ground_at g x y = get_or (get_or g.rows y []) x false

-- the same by column and row of a place of the plane
abbrev pub passable_at : Ground → ℤ → ℤ → Bool
passable_at g (pos x) (pos y) = is_ground_at g x y
passable_at g (pos x) (negsuc y) = false
passable_at g (negsuc x) y = false

-- whether a place of the plane is a passable cell of the map
abbrev pub is_passable : Ground → Place → Bool
is_passable g p = passable_at g p.x p.y

-- how many cells are passable
abbrev pub passable_cells : Ground → ℕ
passable_cells g = sum_by (λ row. count_by (λ cell. cell) row) g.rows

-- where a cell stands in a table of the map's cells, row by row
abbrev pub cell_index : Ground → Cell → ℕ
cell_index g c = c.y * g.width + c.x

-- a side of a map
pub record IsSide (n : ℕ) : Type 0 where
  pub some : 1 ≤ n
  pub few : n ≤ MAX_SIDE

-- the rows have these sizes
pub record IsGround (g : Ground) : Type 0 where
  pub width : IsSide g.width
  pub height : IsSide g.height
  pub rows : length g.rows ≡ g.height
  pub cells : All (λ row. length row ≡ g.width) g.rows

-- no number of a cell: negative, or too large for two bytes
abbrev pub IsNoNumber : ℤ → Type 0
IsNoNumber (pos n) = MAX_COORDINATE < n
IsNoNumber (negsuc n) = Unit {0}

-- a place that no cell can be
abbrev pub IsNoCell : Place → Type 0
IsNoCell p = IsNoNumber p.x ⊎ IsNoNumber p.y
