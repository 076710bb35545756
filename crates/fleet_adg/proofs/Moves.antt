-- The moves of one agent of a plan: how many it has made at a time, and the step of each.
use Rattle.fleet_adg.proofs.Words.{◌≡◌, ◌≢◌, ℕ, zero, suc, ◌+◌, ◌-◌, ◌<◌, ◌≤◌, min, Bool, true, false, cond, List, [], ◌∷◌, ◌++◌, length, get_or, inl, inr, refl, sym, ap, ◌∙◌, subst, arith, add-one, append-nil, range_with_len, cases_Bool, both_ways, not-true, not-false, not_from_false, cases_lt, cases_eq, length_push, get_or_push, get_or_append_left, filter-append, origin, Place, Task, is_same_cell, place_of, is_same_cell-true, is_same_cell-eq, is_same_cell-ne, Plan, cell_of, last_cell, steps, IsConflictFree, changes_in, changes, moves_by}
use Rattle.std.specs.List.{filter}
use Rattle.fleet_plan.specs.Plan.{cell_at}
use Rattle.fleet_adg.proofs.Basics.{indices_push}

-- ---- whether an agent changes its cell in a step

pub changes_in-ne : (plan : Plan) (i x : ℕ) → changes_in plan i x ≡ true → cell_of plan i x ≢ cell_of plan i (suc x)
unfolding changes_in
changes_in-ne plan i x h e =
    both_ways (is_same_cell (cell_of plan i x) (cell_of plan i (x + 1))) (not-true (is_same_cell (cell_of plan i x) (cell_of plan i (x + 1))) h) (is_same_cell-eq (cell_of plan i x) (cell_of plan i (x + 1)) (rw add-one e))

pub changes_in-from_ne : (plan : Plan) (i x : ℕ) → cell_of plan i x ≢ cell_of plan i (suc x) → changes_in plan i x ≡ true
unfolding changes_in
changes_in-from_ne plan i x ne = not_from_false (is_same_cell (cell_of plan i x) (cell_of plan i (x + 1))) (is_same_cell-ne (cell_of plan i x) (cell_of plan i (x + 1)) (λ e. ne (rw add-one at e)))

pub changes_in-same : (plan : Plan) (i x : ℕ) → changes_in plan i x ≡ false → cell_of plan i x ≡ cell_of plan i (suc x)
unfolding changes_in
changes_in-same plan i x h = rw add-one at (is_same_cell-true (cell_of plan i x) (cell_of plan i (x + 1)) (not-false (is_same_cell (cell_of plan i x) (cell_of plan i (x + 1))) h))

-- ---- the steps in which it does

filter-one : (test : ℕ → Bool) (y : ℕ) (b : Bool) → test y ≡ b → filter test (y ∷ []) ≡ cond b (y ∷ []) []
filter-one test y b e = ap (λ c. cond c (y ∷ []) []) e

pub changes-yes : (plan : Plan) (i t : ℕ) → changes_in plan i t ≡ true → changes plan i (suc t) ≡ changes plan i t ++ t ∷ []
unfolding changes
changes-yes plan i t h =
    ap (filter (changes_in plan i)) (indices_push t)
    ∙ filter-append (changes_in plan i) (range_with_len 0 t) (t ∷ [])
    ∙ ap (λ zs. filter (changes_in plan i) (range_with_len 0 t) ++ zs) (filter-one (changes_in plan i) t true h)

pub changes-no : (plan : Plan) (i t : ℕ) → changes_in plan i t ≡ false → changes plan i (suc t) ≡ changes plan i t
unfolding changes
changes-no plan i t h =
    ap (filter (changes_in plan i)) (indices_push t)
    ∙ filter-append (changes_in plan i) (range_with_len 0 t) (t ∷ [])
    ∙ ap (λ zs. filter (changes_in plan i) (range_with_len 0 t) ++ zs) (filter-one (changes_in plan i) t false h)
    ∙ append-nil (filter (changes_in plan i) (range_with_len 0 t))

pub moves_by-zero : (plan : Plan) (i : ℕ) → moves_by plan i zero ≡ 0
unfolding moves_by changes
moves_by-zero plan i = refl

pub moves_by-yes : (plan : Plan) (i t : ℕ) → changes_in plan i t ≡ true → moves_by plan i (suc t) ≡ suc (moves_by plan i t)
unfolding moves_by
moves_by-yes plan i t h = ap length (changes-yes plan i t h) ∙ length_push (changes plan i t) t ∙ add-one (length (changes plan i t))

pub moves_by-no : (plan : Plan) (i t : ℕ) → changes_in plan i t ≡ false → moves_by plan i (suc t) ≡ moves_by plan i t
unfolding moves_by
moves_by-no plan i t h = ap length (changes-no plan i t h)

pub moves_by-step : (plan : Plan) (i t : ℕ) → (moves_by plan i t ≤ moves_by plan i (suc t)) × (moves_by plan i (suc t) ≤ suc (moves_by plan i t))
moves_by-step plan i t = elim (cases_Bool (changes_in plan i t)) [
  | inl h ↦ omega (arith, moves_by-yes plan i t h)
  | inr h ↦ omega (arith, moves_by-no plan i t h)
]

pub moves_by-mono : (plan : Plan) (i t u : ℕ) → t ≤ u → moves_by plan i t ≤ moves_by plan i u
moves_by-mono plan i t zero h = let e : t ≡ zero = omega arith in subst (λ z. moves_by plan i z ≤ moves_by plan i zero) (sym e) (omega arith)
moves_by-mono plan i t (suc u) h =
    let before = λ (l : t ≤ u). moves_by-mono plan i t u l in
    elim (cases_lt u t) [
      | inl l ↦ let e : t ≡ suc u = omega arith in subst (λ z. moves_by plan i z ≤ moves_by plan i (suc u)) (sym e) (omega arith)
      | inr l ↦ omega (arith, before l, moves_by-step plan i u)
    ]

pub moves_by-le : (plan : Plan) (i t : ℕ) → moves_by plan i t ≤ t
moves_by-le plan i zero = omega (arith, moves_by-zero plan i)
moves_by-le plan i (suc t) = omega (arith, moves_by-le plan i t, moves_by-step plan i t)

-- the step of each move
pub record IsMoveAt (plan : Plan) (i t n x : ℕ) : Type 0 where
  pub before : x < t
  pub changes : changes_in plan i x ≡ true
  pub number : moves_by plan i x ≡ n
  pub listed : (d : ℕ) → get_or (package.Rattle.fleet_adg.specs.Compiled.changes plan i t) n d ≡ x

pub move_at : (plan : Plan) (i t n : ℕ) → n < moves_by plan i t → (x : ℕ) × IsMoveAt plan i t n x
unfolding moves_by
move_at plan i zero n h = absurd (omega (arith, moves_by-zero plan i))
move_at plan i (suc t) n h =
    let before = λ (l : n < moves_by plan i t). move_at plan i t n l in
    elim (cases_Bool (changes_in plan i t)) [
      | inl c ↦ elim (cases_lt n (moves_by plan i t)) [
        | inl l ↦ let w = before l in (
          w.0,
          record {
            before = omega (arith, w.1.before);
            changes = w.1.changes;
            number = w.1.number;
            listed = λ d. ap (λ zs. get_or zs n d) (changes-yes plan i t c) ∙ get_or_append_left (changes plan i t) (t ∷ []) d n l ∙ w.1.listed d;
          },
        )
        | inr l ↦ let e : moves_by plan i t ≡ n = omega (arith, moves_by-yes plan i t c) in (
          t,
          record {
            before = omega arith;
            changes = c;
            number = e;
            listed = λ d. ap (λ zs. get_or zs n d) (changes-yes plan i t c) ∙ get_or_push (changes plan i t) t d n e;
          },
        )
      ]
      | inr c ↦ let w = before (omega (arith, moves_by-no plan i t c)) in (
        w.0,
        record {
          before = omega (arith, w.1.before);
          changes = w.1.changes;
          number = w.1.number;
          listed = λ d. ap (λ zs. get_or zs n d) (changes-no plan i t c) ∙ w.1.listed d;
        },
      )
    ]

pub move_once : (plan : Plan) (i x y : ℕ) → changes_in plan i x ≡ true → changes_in plan i y ≡ true → moves_by plan i x ≡ moves_by plan i y → x ≡ y
move_once plan i x y cx cy e = elim (cases_lt x y) [
  | inl l ↦ absurd (omega (arith, moves_by-yes plan i x cx, moves_by-mono plan i (suc x) y l))
  | inr l ↦ elim (cases_lt y x) [
    | inl m ↦ absurd (omega (arith, moves_by-yes plan i y cy, moves_by-mono plan i (suc y) x m))
    | inr m ↦ omega arith
  ]
]

-- the number of a move that is made in step x
pub listed_at : (plan : Plan) (i t x d : ℕ) → x < t → changes_in plan i x ≡ true → get_or (changes plan i t) (moves_by plan i x) d ≡ x
listed_at plan i t x d l c =
    let w = move_at plan i t (moves_by plan i x) (omega (arith, moves_by-yes plan i x c, moves_by-mono plan i (suc x) t l)) in
    w.1.listed d ∙ move_once plan i w.0 x w.1.changes c w.1.number

-- each number of moves is that of a time
pub time_of_count : (plan : Plan) (i t p : ℕ) → p ≤ moves_by plan i t → (s : ℕ) × (s ≤ t) × (moves_by plan i s ≡ p)
time_of_count plan i zero p h = (zero, omega arith, omega (arith, moves_by-zero plan i))
time_of_count plan i (suc t) p h =
    let before = λ (l : p ≤ moves_by plan i t). time_of_count plan i t p l in
    elim (cases_lt (moves_by plan i t) p) [
      | inl l ↦ (suc t, omega arith, omega (arith, moves_by-step plan i t))
      | inr l ↦ let w = before l in (w.0, omega (arith, w.1), w.2)
    ]

-- ---- the end of a plan

pub steps-ge : (plan : Plan) (i : ℕ) → length (get_or plan i []) - 1 ≤ steps plan
unfolding steps
steps-ge [] i = omega arith
steps-ge (path ∷ plan) zero = omega arith
steps-ge (path ∷ plan) (suc i) = omega (arith, steps-ge plan i)

pub cell_of-end : (plan : Plan) (i t : ℕ) → steps plan ≤ t → cell_of plan i t ≡ last_cell plan i
unfolding cell_of last_cell cell_at
cell_of-end plan i t h =
    let k = length (get_or plan i []) - 1 in
    let e : min t k ≡ min k k = omega (arith, steps-ge plan i) in
    ap (λ m. get_or (get_or plan i []) m origin) e

pub changes_in-end : (plan : Plan) (i x : ℕ) → changes_in plan i x ≡ true → x < steps plan
changes_in-end plan i x c = elim (cases_lt x (steps plan)) [
  | inl l ↦ l
  | inr l ↦ absurd (changes_in-ne plan i x c (cell_of-end plan i x l ∙ sym (cell_of-end plan i (suc x) (omega arith))))
]

-- ---- one agent on a cell

pub only_one : (passable : Place → Bool) (tasks : List Task) (plan : Plan) → IsConflictFree passable tasks plan → (x i j : ℕ) → i < length plan → j < length plan → cell_of plan i x ≡ cell_of plan j x → i ≡ j
only_one passable tasks plan free x i j p q e = elim (cases_eq i j) [ inl h ↦ h | inr h ↦ absurd (free.vertex x i j p q (record { apart = h; same = ap place_of e })) ]
