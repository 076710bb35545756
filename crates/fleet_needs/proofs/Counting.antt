-- Counts that are read, where rows of them stand, blocks of columns, and sums over the first ones of a list.
use Rattle.std.specs.Prelude.{cond, count_by}
use Rattle.std.proofs.lemmas.List.Sums.{count_by_more_yes}
use Rattle.fleet_needs.proofs.Words.{true, false, false≢true, sym, ◌≢◌, ℕ, ◌+◌, ◌*◌, ◌<◌, ◌≤◌, List, take, subst, arith, inl, inr, ◌⊎◌, cases_order, mul-le, sum_by, take-take, sum_by-take-le, ◌≡◌, length, replicate, slice_index, ap, ◌∙◌, cases_lt, get_or-replicate, get_or_past, length-replicate, get_or_read, get_or, Bool, refl, Option, Some, None, Program, HasColumn, AreColumns, column_of, Columns}
use Rattle.fleet_needs.specs.Schedule.{AreColumnsOf}

-- a count that is read at a place
pub count_read : (counts : List ℕ) (x y v : ℕ) → x ≡ y → y < length counts → v ≡ get_or counts x v → v ≡ get_or counts y 0
count_read counts x y v e l is =
    get_or_read counts y v l (is ∙ ap (λ (n : ℕ). get_or counts n v) e) 0

pub always_at : {X : Type 0} (x : X) (n i : ℕ) → get_or (replicate n x) i x ≡ x
always_at x n i = elim (cases_lt i n) [
  | inl l ↦ get_or-replicate n i x x l
  | inr l ↦ get_or_past (replicate n x) i x (omega (arith, length-replicate n x))
]

pub none_at : (n i : ℕ) → slice_index (replicate n 0) i ≡ 0
none_at n i = always_at 0 n i

-- if none of them is set, no flag is
pub none_set : (flags : List Bool) → count_by (λ flag. flag) flags ≡ 0 → (i : ℕ) → get_or flags i false ≡ true → ⊥
none_set flags none i set = elim (cases_lt i (length flags)) [
  | inl l ↦ omega (arith, none, sum_by-take-le (λ flag. cond flag 1 0) flags (i + 1), count_by_more_yes (λ flag. flag) flags i false l set)
  | inr past ↦ false≢true (sym (get_or_past flags i false past) ∙ set)
]

-- more of a list have as much together, or more
pub sums_rise : {X : Type 0} (f : X → ℕ) (xs : List X) (i j : ℕ) → i ≤ j → sum_by f (take i xs) ≤ sum_by f (take j xs)
sums_rise f xs i j l = subst (λ ys. sum_by f ys ≤ sum_by f (take j xs)) (take-take i j xs l) (sum_by-take-le f (take j xs) i)

-- a row at a place ends before that of a later place begins
pub row_ends : (w x y : ℕ) → x < y → x * w + w ≤ y * w
row_ends w x y l = let s : (x + 1) * w ≤ y * w = mul-le (x + 1) w y w (omega arith) (omega arith) in omega arith

-- the counts of a row are no counts of the row at another place
pub outside : (w x y k : ℕ) → x ≢ y → k < w → (x * w + k < y * w) ⊎ (y * w + w ≤ x * w + k)
outside w x y k n l = elim (cases_order x y) [
  | inl e ↦ absurd (n e)
  | inr (inl less) ↦ (let r : x * w + w ≤ y * w = row_ends w x y less in inl (omega arith))
  | inr (inr more) ↦ (let r : y * w + w ≤ x * w = row_ends w y x more in inr (omega arith))
]

-- the columns are of agents of the program
pub columns_of : (p : Program) (asked : List Bool) (from : ℕ) (columns : Columns) → length asked ≡ length p → AreColumns asked from columns → AreColumnsOf p columns
columns_of p asked from columns all h = record { agents = h.agents ∙ all; within = h.within; apart = h.apart }

-- an agent has a column or none
pub column_cases : (columns : Columns) (j : ℕ) → ((k : ℕ) × HasColumn columns j k) ⊎ (column_of columns j ≡ None)
column_cases columns j = go (column_of columns j) refl
  where
    go : (o : Option ℕ) → column_of columns j ≡ o → ((k : ℕ) × HasColumn columns j k) ⊎ (column_of columns j ≡ None)
    go (Some k) e = inl (k, e)
    go None e = inr e
