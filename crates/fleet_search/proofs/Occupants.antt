-- Where agents are once they have arrived, and what tests say.
use Rattle.fleet_search.proofs.Words.{◌≡◌, ℕ, ◌≤◌, Bool, true, false, IsTrue, List, get_or, ◌↔◌, ap, arith, both_ways, Cell, origin, cell_at, arrival}

-- ---- times

-- from its arrival on the cell is the last one
pub cell_at-late : (path : List Cell) (t : ℕ) → arrival path ≤ t → cell_at path t ≡ cell_at path (arrival path)
unfolding cell_at
cell_at-late path t h = ap (λ n. get_or path n origin) (omega arith)

-- ---- tests

-- what a test that came out false says
pub no_from_false : {P : Type 0} (b : Bool) → b ≡ false → IsTrue b ↔ P → P → ⊥
no_from_false b e h p = both_ways b e (h.1 p)

pub yes_from_true : {P : Type 0} (b : Bool) → b ≡ true → IsTrue b ↔ P → P
yes_from_true b e h = h.0 e
