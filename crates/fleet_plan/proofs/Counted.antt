-- Steps that are counted, those in which an agent moves and those in which it stays, and the time at which it rests.
use Rattle.fleet_plan.proofs.Words.{◌≡◌, ℕ, ◌+◌, ◌-◌, ◌<◌, ◌≤◌, Bool, true, false, cond, not, List, [], ◌∷◌, ◌++◌, length, get_or, take, take_all, Some, sum_by, count_by, sym, ap, ◌∙◌, arith, map-id, sum_by-cons, sum_by_push, sum_by_more, suffix_len_is, length-range_with_len, map-range_with_len_more, is_same_cell, indices, origin, slice_get, get_or_from_slice_get, slice_get_within, Cell, Path, Plan, cell_at, end_of, cost_of, stays_in, moves_before, stays_before}
use Rattle.fleet_plan.proofs.PathLaws.{at_within}

-- ---- sums

-- one term more
pub total_more : (f : ℕ → ℕ) (i m n : ℕ) → m ≡ sum_by f (indices i) → n ≡ f i → m + n ≡ sum_by f (indices (i + 1))
total_more f i m n e h =
    (λ t. e t + h t) ∙ sym (sum_by_push f (indices i) i) ∙ ap (sum_by f) (sym (sym (map-id _) ∙ map-range_with_len_more (λ x. x) 0 i i (omega arith) ∙ ap (λ k. k ++ i ∷ []) (map-id _)))

one_of_two : (b : Bool) → cond b 1 0 + cond (not b) 1 0 ≡ 1
one_of_two true = let z : 1 + 0 ≡ 1 = omega arith in z
one_of_two false = let z : 0 + 1 ≡ 1 = omega arith in z

-- each element passes, or does not
all_counted : {X : Type 0} (p : X → Bool) → (xs : List X) → count_by p xs + count_by (λ x. not (p x)) xs ≡ length xs
all_counted p [] = let z : 0 + 0 ≡ 0 = omega arith in z
all_counted {X} p (x ∷ xs) =
    let yes = sum_by-cons (λ (y : X). cond (p y) 1 0) x xs in
    let no = sum_by-cons (λ (y : X). cond (not (p y)) 1 0) x xs in
    let one = one_of_two (p x) in
    let rest = all_counted p xs in
    omega (arith, yes, no, one, rest)

-- ---- moves and stays

pub moves_none : (path : Path) → moves_before path 0 ≡ 0
unfolding moves_before
moves_none path = let z : 0 ≡ 0 = omega arith in z

pub moves_more : (path : Path) (t m : ℕ) → stays_in path t ≡ false → m ≡ moves_before path t → m + 1 ≡ moves_before path (t + 1)
unfolding moves_before
moves_more path t m moves e = total_more (λ s. cond (not (stays_in path s)) 1 0) t m 1 e (ap (λ b. cond (not b) 1 0) (sym moves))

pub moves_same : (path : Path) (t m : ℕ) → stays_in path t ≡ true → m ≡ moves_before path t → m ≡ moves_before path (t + 1)
unfolding moves_before
moves_same path t m stays e =
    let z : m ≡ m + 0 = omega arith in
    z ∙ total_more (λ s. cond (not (stays_in path s)) 1 0) t m 0 e (ap (λ b. cond (not b) 1 0) (sym stays))

pub stays_left : (path : Path) (t m : ℕ) → m ≡ moves_before path t → t - m ≡ stays_before path t
unfolding moves_before stays_before
stays_left path t m e =
    let all = all_counted (stays_in path) (indices t) in
    let long = length-range_with_len 0 t in
    omega (arith, all, long, e)

-- ---- the time from which on an agent rests

pub end_is : (path : Path) (n : ℕ) (c : Cell) → n + 1 ≡ length path → c ≡ cell_at path n → c ≡ end_of path
end_is path n c e is = is ∙ ap (cell_at path) (let k : n ≡ length path - 1 = omega arith in k)

pub cost_is : (path : Path) (t : ℕ) → t ≤ length path → ((k : ℕ) → t ≤ k → k < length path → is_same_cell (end_of path) (cell_at path k) ≡ true) → (0 < t → is_same_cell (end_of path) (cell_at path (t - 1)) ≡ false) → t ≡ cost_of path
unfolding cost_of
cost_is path t l same before =
    let e = suffix_len_is (is_same_cell (end_of path)) path t origin l
    (λ k h m. ap (is_same_cell (end_of path)) (sym (at_within path k origin m)) ∙ same k h m)
    (λ some. ap (is_same_cell (end_of path)) (sym (at_within path (t - 1) origin (omega arith))) ∙ before some) in
    omega (arith, e)

-- ---- one agent more

pub summed_more : (f : Path → ℕ) (plan : Plan) (i m n : ℕ) (path : Path) → slice_get plan i ≡ Some path → m ≡ sum_by f (take i plan) → n ≡ f path → m + n ≡ sum_by f (take (i + 1) plan)
summed_more f plan i m n path at e is =
    let within = slice_get_within plan i path at in
    let here = get_or_from_slice_get plan i path [] at in
    let more = sum_by_more f plan i [] within in
    let same : f (get_or plan i []) ≡ n = ap f here ∙ sym is in
    omega (arith, more, same, e)

pub summed_all : (f : Path → ℕ) (plan : Plan) (i m : ℕ) → length plan ≤ i → m ≡ sum_by f (take i plan) → m ≡ sum_by f plan
summed_all f plan i m l e = e ∙ ap (sum_by f) (take_all i plan l)
