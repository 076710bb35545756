-- Written cells and paths are read again.
use Rattle.fleet_plan.proofs.Words.{◌≡◌, ℕ, ◌≤◌, false, eqb, List, [], ◌∷◌, ◌++◌, map, Option, Some, refl, sym, ap, subst, ◌∙◌, arith, decimal, AllByRecursion, AllZip, slice_split, length-map, recursion_from_All, Cell, MAX_COORDINATE, IsCell, Bytes, lines, spells, small_is, From, apart_from, from_less, from_append, from_join, decimal_from, split_first, split_last, IsToken, tokens_from, word_some, front_join, lines_written, Path, Plan, IsPath, IsWithinLimits, cell_of_parts, spelled_cell, StandsForPath, ArePlanLines, cell_text, path_text, plan_text}

-- ---- cells

no_comma : (ds : Bytes) → From 48 ds → AllByRecursion (λ b. eqb b 44 ≡ false) ds
no_comma [] h = tt
no_comma (d ∷ ds) h = (apart_from 48 d 44 (omega arith) h.0, no_comma ds h.1)

coordinate_from : (n : ℕ) → n ≤ MAX_COORDINATE → From 48 (decimal n)
coordinate_from n le = decimal_from n (omega arith)

cell_again : (c : Cell) → IsCell c → spelled_cell (cell_text c) ≡ Some c
unfolding spelled_cell
cell_again c h =
    let parts : slice_split (λ b. eqb b 44) (decimal c.x ++ 44 ∷ decimal c.y) ≡ decimal c.x ∷ decimal c.y ∷ [] =
    split_first (λ b. eqb b 44) (decimal c.x) 44 (decimal c.y) (no_comma (decimal c.x) (coordinate_from c.x h.x)) refl ∙ ap (λ (ws : List Bytes). decimal c.x ∷ ws) (split_last (λ b. eqb b 44) (decimal c.y) (no_comma (decimal c.y) (coordinate_from c.y h.y))) in
    ap cell_of_parts parts ∙ (let x = h.x in let y = h.y in rw (small_is c.x (omega (arith, x)), small_is c.y (omega (arith, y))) refl)

cell_token : (c : Cell) → IsCell c → IsToken (cell_text c)
cell_token c h = record {
  some = word_some (decimal c.x) (44 ∷ decimal c.y) (spells c.x (let x = h.x in omega (arith, x))).some;
  bytes = from_append 33 (decimal c.x) (44 ∷ decimal c.y) (from_less 48 33 (decimal c.x) (omega arith) (coordinate_from c.x h.x)) (omega arith, from_less 48 33 (decimal c.y) (omega arith) (coordinate_from c.y h.y));
}

-- ---- plans

tokens : (path : Path) → AllByRecursion IsCell path → AllByRecursion IsToken (map cell_text path)
tokens [] h = tt
tokens (c ∷ path) h = (cell_token c h.0, tokens path h.1)

cells_again : (path : Path) → AllByRecursion IsCell path → map spelled_cell (map cell_text path) ≡ map (λ cell. Some cell) path
cells_again [] h = refl
cells_again (c ∷ path) h = ap (λ (o : Option Cell). o ∷ map spelled_cell (map cell_text path)) (cell_again c h.0) ∙ ap (λ (os : List (Option Cell)). Some c ∷ os) (cells_again path h.1)

path_again : (path : Path) → IsPath path → StandsForPath (path_text path) path
path_again path h =
    let cells = recursion_from_All IsCell path h.cells in
    let some = h.some_cells in
    let front = front_join (map cell_text path) (tokens path cells) (omega (arith, some, length-map path cell_text)) in
    record { spells = record { some = some; cells = ap (map spelled_cell) front ∙ cells_again path cells }; few = h.few_cells }

paths_again : (plan : Plan) → AllByRecursion IsPath plan → AllZip StandsForPath (map path_text plan) plan
paths_again [] h = tt
paths_again (path ∷ plan) h = (path_again path h.0, paths_again plan h.1)

written_bytes : (plan : Plan) → AllByRecursion IsPath plan → AllByRecursion (From 32) (map path_text plan)
written_bytes [] h = tt
written_bytes (path ∷ plan) h = (from_join (map cell_text path) (tokens_from (map cell_text path) (tokens path (recursion_from_All IsCell path h.0.cells))), written_bytes plan h.1)

pub plan_again : (plan : Plan) → IsWithinLimits plan → ArePlanLines (lines (plan_text plan)) plan
plan_again plan h =
    let each = recursion_from_All IsPath plan h.paths in
    let written = lines_written (map path_text plan) (written_bytes plan each) in
    record { agents = h.fleet; paths = subst (λ (ls : List Bytes). AllZip StandsForPath ls plan) (sym written) (paths_again plan each) }
