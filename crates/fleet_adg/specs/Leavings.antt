-- A table that has for each cell of a map the leavings of it so far.
use Rattle.std.specs.Prelude.{◌≡◌, ℕ, ◌<◌, ◌==◌, nat_lt, if◌then◌else◌, List, [], ◌∷◌, option_map, option_to_list}
use Rattle.fleet_grid.specs.Table.{value_in}
use Rattle.fleet_grid.specs.Lists.{list_at, key_of_number}
use Rattle.fleet_model.specs.declared.geometry.Cell.{Cell}
use Rattle.fleet_model.specs.declared.program.Await.{Await}
use Rattle.fleet_model.specs.declared.deps.Deps.{Deps}
use Rattle.fleet_adg.specs.declared.sweep.Leaving.{Leaving}
use Rattle.fleet_adg.specs.declared.sweep.Leavings.{Leavings}
use Rattle.fleet_grid.specs.Ground.{Ground, cell_index}
use Rattle.fleet_plan.specs.Plan.{Plan}
use Rattle.fleet_adg.specs.Compiled.{leavings}

-- to wait for the move by which a cell was left
abbrev pub await_for : Leaving → Await
await_for l = record { agent = l.agent; count = l.number }

-- the leavings of the cell at a place
abbrev pub row_of : Leavings → ℕ → List Await
row_of (Leavings.All rows) place = list_at rows (key_of_number place)
row_of (Leavings.Last last) place = option_to_list (option_map await_for (value_in last place))

-- which leavings the table keeps
abbrev pub kind_of : Leavings → Deps
kind_of (Leavings.All rows) = Deps.All
kind_of (Leavings.Last last) = Deps.Last

-- a leaving in its place among those in rising order of agent, in which it replaces that by the same agent
abbrev pub with_leaving : List Await → Await → List Await
with_leaving [] w = w ∷ []
with_leaving (v ∷ vs) w = if nat_lt v.agent w.agent then v ∷ with_leaving vs w else if v.agent == w.agent then w ∷ vs else w ∷ v ∷ vs

-- the leavings of a cell after one more
abbrev pub leavings_after : Deps → List Await → Await → List Await
leavings_after Deps.All ws w = with_leaving ws w
leavings_after Deps.Last ws w = w ∷ []

-- the table has for each cell of the map the leavings before time t of the plan that an action awaits
pub record AreLeavingsAt (g : Ground) (plan : Plan) (deps : Deps) (t : ℕ) (l : Leavings) : Type 0 where
  pub kind : kind_of l ≡ deps
  pub rows : (q : Cell) → q.x < g.width → q.y < g.height → row_of l (cell_index g q) ≡ leavings plan deps q t
