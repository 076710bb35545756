-- What the calls of a plan read.
use Rattle.fleet_plan.proofs.Words.{◌≡◌, ℕ, ◌+◌, ◌-◌, ◌<◌, ◌≤◌, min, max, List, [], ◌∷◌, ◌++◌, length, get_or, take, All, sym, ap, ◌∙◌, subst, arith, get_or_read, take_more, take_all, All-more, Cell, IsCell, origin, Plan, IsPath, IsFleet, IsWithinLimits, cell_at, steps, MAX_CELLS}

pub cell_read : (xs : List Cell) (t n last : ℕ) (x : Cell) → last + 1 ≡ length xs → n ≡ min t last → x ≡ get_or xs n x → x ≡ cell_at xs t
unfolding cell_at
cell_read xs t n last x long e h =
    let k : n ≡ min t (length xs - 1) = omega arith in
    get_or_read xs n x (omega arith) h origin ∙ ap (λ m. get_or xs m origin) k

-- all cells are cells of a path
pub is_path : (xs : List Cell) (i : ℕ) → 1 ≤ length xs → length xs ≤ MAX_CELLS → length xs ≤ i → All IsCell (take i xs) → IsPath xs
is_path xs i some few l h = record { some_cells = some; few_cells = few; cells = subst (All IsCell) (take_all i xs l) h }

steps_push : (xs : Plan) (y : List Cell) → steps (xs ++ y ∷ []) ≡ max (steps xs) (length y - 1)
unfolding steps
steps_push [] y = omega arith
steps_push (x ∷ xs) y = omega (arith, steps_push xs y)

-- one more path
pub steps_more : (xs : Plan) (i : ℕ) (y : List Cell) → i < length xs → y ≡ get_or xs i y → steps (take (i + 1) xs) ≡ max (steps (take i xs)) (length y - 1)
steps_more xs i y l e = ap steps (take_more xs i y l ∙ ap (λ z. take i xs ++ z ∷ []) (sym e)) ∙ steps_push (take i xs) y

pub paths_more : (xs : Plan) (i : ℕ) (y : List Cell) → i < length xs → y ≡ get_or xs i y → All IsPath (take i xs) → IsPath y → All IsPath (take (i + 1) xs)
paths_more xs i y l e h p = All-more IsPath xs i y l h (subst IsPath e p)

pub within_limits : (xs : Plan) (s i : ℕ) → IsFleet xs → length xs ≤ i → (s ≡ steps (take i xs)) × All IsPath (take i xs) → IsWithinLimits xs × (s ≡ steps xs)
within_limits xs s i fleet l h = (record { fleet = fleet; paths = subst (All IsPath) (take_all i xs l) h.1 }, h.0 ∙ ap steps (take_all i xs l))
