-- How far the passable cells are from a goal. Cells are labelled with their numbers of moves, first those over which
-- the shortest paths from the start may lead (A*: Hart et al. 1968).
use Rattle.std.specs.Prelude.{◌≡◌, ℕ, ◌+◌, ◌-◌, ◌*◌, ◌<◌, ◌≤◌, ◌==◌, cond, IsTrue, List, length, get_or, set, Contains, Option, None, Some, unwrap_or, min, max, ◌⊎◌, ◌++◌, ◌∷◌, []}
use Rattle.std.specs.Int.{abs_diff}
use Rattle.std.specs.List.{sum_by}
use Rattle.fleet_model.specs.declared.geometry.Cell.{Cell}
use Rattle.fleet_model.specs.declared.geometry.Dir.{Dir}
use Rattle.fleet_model.specs.Geometry.{place_of, moved}
use Rattle.fleet_model.specs.declared.limits.TheConstants.{MAX_HORIZON}
use Rattle.fleet_grid.specs.Ground.{Ground, IsGround, is_passable, cell_index}
use Rattle.fleet_plan.specs.Plan.{AreNeighbours}
use Rattle.fleet_search.specs.declared.distances.Label.{Label}
use Rattle.fleet_search.specs.declared.distances.Effort.{Effort}

-- the labels of a map's cells, with the search that labels them: its number, start and goal, the bound below which all
-- cells are expanded, the cells that are expanded next and those after them, and how the last search came out
pub record DistanceTable : Type 0 where
  pub grid : Ground
  pub labels : List Label
  pub search : ℕ
  pub start : Cell
  pub goal : Cell
  pub f_bound : ℕ
  pub layer : List Cell
  pub next : List Cell
  pub last : Effort

-- the label that stands for those past the end of a table
abbrev pub no_label : Label
no_label = record { search = 0; distance = 0 }

-- the cell is a passable one of the map
abbrev pub IsOnGround : Ground → Cell → Type 0
IsOnGround g c = IsTrue (is_passable g (place_of c))

-- the number of moves that the label says, if it is one of this search
abbrev pub label_of_search : ℕ → Label → Option ℕ
label_of_search search l = cond (l.search == search) (Some l.distance) None

-- the number of moves that the cell is labelled with
unfoldable pub label_in : Ground → List Label → ℕ → Cell → Option ℕ
label_in g labels search c = label_of_search search (get_or labels (cell_index g c) no_label)

-- how many columns and rows lie between two cells
unfoldable pub manhattan : Cell → Cell → ℕ
manhattan a b = abs_diff a.x b.x + abs_diff a.y b.y

-- how many moves lead from the cell to the goal at least, whatever its label: as many as columns and rows lie between
-- the two or, if that is more, as `f_bound` leaves after the columns and rows from the start, as no path of fewer moves
-- than `f_bound` from the start to the goal leads over the cell
unfoldable pub least_moves : DistanceTable → Cell → ℕ
least_moves d c = max (manhattan c d.goal) (d.f_bound - manhattan c d.start)

-- how many moves lead from the cell to the goal at least: its label, if it has one of no more moves than the bound
-- without it, and else that bound
unfoldable pub heuristic : DistanceTable → Cell → ℕ
heuristic d c = min (unwrap_or (label_in d.grid d.labels d.search c) (least_moves d c)) (least_moves d c)

-- a table for the map, with no label of a later search
pub record IsReady (g : Ground) (labels : List Label) (search : ℕ) : Type 0 where
  pub map : IsGround g
  pub size : length labels ≡ g.width * g.height
  pub old : (i : ℕ) → i < length labels → (get_or labels i no_label).search ≤ search

-- the table is for the map, the goal is at no distance, and neighbours' distances differ by one at most
pub record AreDistances (g : Ground) (d : DistanceTable) (goal : Cell) : Type 0 where
  pub grid : d.grid ≡ g
  pub ready : IsReady g d.labels d.search
  pub goal_on_ground : IsOnGround g d.goal
  pub few : d.f_bound ≤ MAX_HORIZON + 1
  pub at_goal : heuristic d goal ≡ 0
  pub near : (c e : Cell) → IsOnGround g c → IsOnGround g e → AreNeighbours c e → heuristic d e ≤ heuristic d c + 1

-- all passable neighbours of the cell are labelled, with at most one move more
abbrev pub IsClosed : Ground → List Label → ℕ → Cell → ℕ → Type 0
IsClosed g labels search c n = (e : Cell) → AreNeighbours c e → IsOnGround g e → (m : ℕ) × (label_in g labels search e ≡ Some m) × (m ≤ n + 1)

-- the cell's neighbours are still to be labelled, now or after those of the layer
abbrev pub IsWaiting : (f_bound distance : ℕ) → List Cell → List Cell → Option Cell → Cell → Type 0
IsWaiting f_bound distance layer next left c =
    ((distance ≡ f_bound) × (Contains layer c ⊎ (left ≡ Some c))) ⊎ ((distance ≡ f_bound + 2) × Contains next c)

-- a labelled cell is closed, or waits on the list for the number of moves of a path from the start over it to the goal
pub record IsSpread (g : Ground) (labels : List Label) (search : ℕ) (start goal : Cell) (f_bound : ℕ) (left : Option Cell) (layer next : List Cell) : Type 0 where
  pub goal_on_ground : IsOnGround g goal
  pub at_goal : label_in g labels search goal ≡ Some 0
  pub apart : (c : Cell) (n : ℕ) → IsOnGround g c → label_in g labels search c ≡ Some n → manhattan c goal ≤ n
  pub in_layer : (c : Cell) → Contains layer c → IsOnGround g c
  pub in_next : (c : Cell) → Contains next c → IsOnGround g c
  pub closed : (c : Cell) (n : ℕ) → IsOnGround g c → label_in g labels search c ≡ Some n → IsClosed g labels search c n ⊎ IsWaiting f_bound (n + manhattan c start) layer next left c

-- .. of the labels and the lists of a table
abbrev pub IsSpreadOf : Option Cell → DistanceTable → Type 0
IsSpreadOf left d = IsSpread d.grid d.labels d.search d.start d.goal d.f_bound left d.layer d.next

-- it is a search from the one cell to the other, and cells wait on the layer alone
pub record IsSearchFor (from to : Cell) (d : DistanceTable) : Type 0 where
  pub spread : IsSpreadOf None d
  pub next : d.next ≡ []
  pub start : d.start ≡ from
  pub goal : d.goal ≡ to

-- no cell is being left, and none waits on the layer
pub record IsLayerDone (d : DistanceTable) : Type 0 where
  pub spread : IsSpreadOf None d
  pub layer : d.layer ≡ []

-- the cell is labelled with n moves
abbrev pub IsLabelled : DistanceTable → Cell → ℕ → Type 0
IsLabelled d c n = label_in d.grid d.labels d.search c ≡ Some n

-- a cell that is labelled stays so, and no label rises
abbrev pub LabelsFall : (old new : DistanceTable) → Type 0
LabelsFall old new = (c : Cell) (n : ℕ) → IsOnGround old.grid c → IsLabelled old c n → (m : ℕ) × IsLabelled new c m × (m ≤ n)

-- the passable cell that is reached in this direction from the one that is left is labelled, with at most one move more
abbrev pub IsFoundTowards : DistanceTable → ℕ → Cell → Dir → Type 0
IsFoundTowards d n left dir = (e : Cell) → place_of e ≡ moved (place_of left) dir → IsOnGround d.grid e → (m : ℕ) × IsLabelled d e m × (m ≤ n + 1)

-- map, start, goal and bound of the search are the same
pub record IsSameSearch (old new : DistanceTable) : Type 0 where
  pub grid : new.grid ≡ old.grid
  pub start : new.start ≡ old.start
  pub goal : new.goal ≡ old.goal
  pub f_bound : new.f_bound ≡ old.f_bound

-- the moves of the label, or more than any label of this search has, if it is of another one
abbrev pub label_weight : ℕ → Label → ℕ
label_weight search l = unwrap_or (label_of_search search l) (MAX_HORIZON + 1)

-- how much there is still to do: twice the moves of all labels, and the cells of the layer
unfoldable pub work_left : DistanceTable → ℕ
work_left d = 2 * sum_by (label_weight d.search) d.labels + length d.layer

-- no cell is being left, and no more is to be done than before
pub record HasSpread (old new : DistanceTable) : Type 0 where
  pub spread : IsSpreadOf None new
  pub work : work_left new ≤ work_left old

-- the label is one of this search, and says no more moves
pub record IsLabelNear (search : ℕ) (l : Label) (distance : ℕ) : Type 0 where
  pub current : l.search ≡ search
  pub near : l.distance ≤ distance

-- over the cell that is left, which is labelled with so many moves, a path of `f_bound` moves leads
pub record IsOnBound (distance : ℕ) (left : Cell) (d : DistanceTable) : Type 0 where
  pub spread : IsSpreadOf (Some left) d
  pub labelled : IsLabelled d left distance
  pub on_ground : IsOnGround d.grid left
  pub over : distance + manhattan left d.start ≡ d.f_bound

-- the neighbour in the direction from the cell that is left, which stays as it is, is labelled; no label rises, and no
-- more is left to do
pub record IsLabelledTowards (distance : ℕ) (left : Cell) (dir : Dir) (old new : DistanceTable) : Type 0 where
  pub left_on_bound : IsOnBound distance left new
  pub found : IsFoundTowards new distance left dir
  pub fall : LabelsFall old new
  pub work : work_left new ≤ work_left old

-- the table with a label of its search, of so many moves, in that place
abbrev pub with_label : DistanceTable → (place distance : ℕ) → DistanceTable
with_label d place distance = record d { labels = set d.labels place (record { search = d.search; distance = distance }) }

-- the cell is put on the layer if it is nearer to the start than the one that is left, and else on the next list
abbrev pub IsPutFrom : (left cell : Cell) → (old new : DistanceTable) → Type 0
IsPutFrom left cell old new =
    ((manhattan cell old.start < manhattan left old.start) × (new ≡ record old { layer = old.layer ++ cell ∷ [] }))
    ⊎ ((manhattan left old.start ≤ manhattan cell old.start) × (new ≡ record old { next = old.next ++ cell ∷ [] }))
