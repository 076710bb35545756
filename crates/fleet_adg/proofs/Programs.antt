-- The parts of a compiled program: starts, goals, paths, numbers of moves and awaits.
use Rattle.fleet_adg.proofs.Words.{◌≡◌, ℕ, zero, suc, ◌+◌, ◌-◌, ◌<◌, ◌≤◌, Bool, true, false, cond, ltb, List, [], ◌∷◌, ◌++◌, map, take, length, get_or, slice_get, Some, None, option_map, ◌⊎◌, inl, inr, refl, sym, ap, ◌∙◌, subst, arith, add-one, pos, ◌-ℤ◌, ◌+ℤ◌, option_map_or, cases_lt, cases_Bool, lt-ltb, le-ltb, ints, same_Some, slice_get-map, slice_get-get_or, slice_get_past, map_push, take-map, take_all, take-append-le, length-map, length-map-range_with_len, get_or-map-range_with_len, Cell, Place, Dir, Action, AgentProgram, Deps, place_of, moved, is_move, stepped, origin, start_of, goal_of, actions_of, moves, awaits_of, walked, path, AreMoves, NeverStays, indices, IsTrue, All-map, Task, Plan, cell_of, steps, AreNeighbours, IsConflictFree, direction, changes_in, changes, moves_by, entry_awaits, action_in, agent_program, compiled, NeverDwells}
use Rattle.fleet_model.specs.declared.geometry.Dir.TheVariants.{North, East, South, West}
use Rattle.fleet_adg.proofs.Moves.{changes_in-ne, changes_in-same, changes-yes, changes-no, moves_by-yes, moves_by-mono, IsMoveAt, move_at, listed_at}

-- ---- directions

direction-at : (c d : Cell) (p q r : Bool) → ltb d.y c.y ≡ p → ltb c.x d.x ≡ q → ltb c.y d.y ≡ r → direction c d ≡ cond p North (cond q East (cond r South West))
unfolding direction
direction-at c d p q r ep eq er = λ i. cond (ep i) North (cond (eq i) East (cond (er i) South West))

direction-is : (c d : Cell) (e : Dir) → place_of d ≡ moved (place_of c) e → direction c d ≡ e
direction-is c d North h =
    let hx : pos d.x ≡ pos c.x = ap (λ (p : Place). p.x) h in
    let hy : pos d.y ≡ pos c.y -ℤ pos 1 = ap (λ (p : Place). p.y) h in
    direction-at c d true (ltb c.x d.x) (ltb c.y d.y) (lt-ltb d.y c.y (omega (arith, ints))) refl refl
direction-is c d East h =
    let hx : pos d.x ≡ pos c.x +ℤ pos 1 = ap (λ (p : Place). p.x) h in
    let hy : pos d.y ≡ pos c.y = ap (λ (p : Place). p.y) h in
    direction-at c d false true (ltb c.y d.y) (le-ltb d.y c.y (omega (arith, ints))) (lt-ltb c.x d.x (omega (arith, ints))) refl
direction-is c d South h =
    let hx : pos d.x ≡ pos c.x = ap (λ (p : Place). p.x) h in
    let hy : pos d.y ≡ pos c.y +ℤ pos 1 = ap (λ (p : Place). p.y) h in
    direction-at c d false false true (le-ltb d.y c.y (omega (arith, ints))) (le-ltb c.x d.x (omega (arith, ints))) (lt-ltb c.y d.y (omega (arith, ints)))
direction-is c d West h =
    let hx : pos d.x ≡ pos c.x -ℤ pos 1 = ap (λ (p : Place). p.x) h in
    let hy : pos d.y ≡ pos c.y = ap (λ (p : Place). p.y) h in
    direction-at c d false false false (le-ltb d.y c.y (omega (arith, ints))) (le-ltb c.x d.x (omega (arith, ints))) (le-ltb c.y d.y (omega (arith, ints)))

moved_there : (c d : Cell) → AreNeighbours c d → moved (place_of c) (direction c d) ≡ place_of d
moved_there c d (e, h) = ap (moved (place_of c)) (direction-is c d e h) ∙ sym h

-- ---- walks

walked_push : (q : Place) (xs : List Action) (a : Action) → walked q (xs ++ a ∷ []) ≡ stepped (walked q xs) a.step
walked_push q [] a = refl
walked_push q (x ∷ xs) a = walked_push (stepped q x.step) xs a

take_changes : (plan : Plan) (i t u : ℕ) → t ≤ u → take (moves_by plan i t) (changes plan i u) ≡ changes plan i t
unfolding moves_by
take_changes plan i t zero h = let e : t ≡ zero = omega arith in take_all (moves_by plan i t) (changes plan i zero) (subst (λ z. length (changes plan i zero) ≤ moves_by plan i z) (sym e) (omega arith)) ∙ ap (changes plan i) (sym e)
take_changes plan i t (suc u) h =
    let before = λ (l : t ≤ u). take_changes plan i t u l in
    elim (cases_lt u t) [
      | inl l ↦ let e : suc u ≡ t = omega arith in take_all (moves_by plan i t) (changes plan i (suc u)) (subst (λ z. length (changes plan i (suc u)) ≤ moves_by plan i z) e (omega arith)) ∙ ap (changes plan i) e
      | inr l ↦ elim (cases_Bool (changes_in plan i u)) [
        | inl c ↦ ap (take (moves_by plan i t)) (changes-yes plan i u c) ∙ take-append-le (moves_by plan i t) (changes plan i u) (u ∷ []) (moves_by-mono plan i t u l) ∙ before l
        | inr c ↦ ap (take (moves_by plan i t)) (changes-no plan i u c) ∙ before l
      ]
    ]

-- ---- the program of an agent

pub length-compiled : (plan : Plan) (deps : Deps) → length (compiled plan deps) ≡ length plan
unfolding compiled
length-compiled plan deps = length-map-range_with_len (agent_program plan deps) 0 (length plan)

pub agent-compiled : (plan : Plan) (deps : Deps) (i : ℕ) → i < length plan → slice_get (compiled plan deps) i ≡ Some (agent_program plan deps i)
unfolding compiled
agent-compiled plan deps i h =
    let d = agent_program plan deps 0 in
    slice_get-get_or (compiled plan deps) i d (omega (arith, length-compiled plan deps)) ∙ ap Some (get_or-map-range_with_len (agent_program plan deps) 0 (length plan) i i d h (omega arith))

pub no_agent-compiled : (plan : Plan) (deps : Deps) (i : ℕ) → length plan ≤ i → slice_get (compiled plan deps) i ≡ None
no_agent-compiled plan deps i h = slice_get_past (compiled plan deps) i (omega (arith, length-compiled plan deps))

pub start_of-compiled : (plan : Plan) (deps : Deps) (i : ℕ) → i < length plan → start_of (compiled plan deps) i ≡ cell_of plan i 0
unfolding agent_program
start_of-compiled plan deps i h = ap (λ o. option_map_or (λ (a : AgentProgram). a.start) o origin) (agent-compiled plan deps i h)

pub goal_of-compiled : (plan : Plan) (deps : Deps) (i : ℕ) → i < length plan → goal_of (compiled plan deps) i ≡ cell_of plan i (steps plan)
unfolding agent_program
goal_of-compiled plan deps i h = ap (λ o. option_map_or (λ (a : AgentProgram). a.goal) o origin) (agent-compiled plan deps i h)

pub actions_of-compiled : (plan : Plan) (deps : Deps) (i : ℕ) → i < length plan → actions_of (compiled plan deps) i ≡ map (action_in plan deps i) (changes plan i (steps plan))
unfolding agent_program
actions_of-compiled plan deps i h = ap (λ o. option_map_or (λ (a : AgentProgram). a.actions) o []) (agent-compiled plan deps i h)

no_actions-compiled : (plan : Plan) (deps : Deps) (i : ℕ) → length plan ≤ i → actions_of (compiled plan deps) i ≡ []
no_actions-compiled plan deps i h = ap (λ o. option_map_or (λ (a : AgentProgram). a.actions) o []) (no_agent-compiled plan deps i h)

pub moves-compiled : (plan : Plan) (deps : Deps) (i : ℕ) → i < length plan → moves (compiled plan deps) i ≡ moves_by plan i (steps plan)
unfolding moves_by
moves-compiled plan deps i h = ap length (actions_of-compiled plan deps i h) ∙ length-map (changes plan i (steps plan)) (action_in plan deps i)

pub no_moves-compiled : (plan : Plan) (deps : Deps) (i : ℕ) → length plan ≤ i → moves (compiled plan deps) i ≡ 0
no_moves-compiled plan deps i h = ap length (no_actions-compiled plan deps i h)

-- ---- awaits

awaits-in : (plan : Plan) (deps : Deps) (i n x : ℕ) → i < length plan → IsMoveAt plan i (steps plan) n x → n < moves_by plan i (steps plan) → awaits_of (compiled plan deps) i (suc n) ≡ entry_awaits plan deps i x
unfolding action_in moves_by
awaits-in plan deps i n x h m l =
    ap (λ xs. option_map_or (λ (a : Action). a.awaits) (slice_get xs n) []) (actions_of-compiled plan deps i h)
    ∙ ap (λ o. option_map_or (λ (a : Action). a.awaits) o []) (slice_get-map (action_in plan deps i) (changes plan i (steps plan)) n)
    ∙ ap (λ o. option_map_or (λ (a : Action). a.awaits) (option_map (action_in plan deps i) o) []) (slice_get-get_or (changes plan i (steps plan)) n 0 l ∙ ap Some (m.listed 0))

no_awaits-past : (plan : Plan) (deps : Deps) (i n : ℕ) → moves (compiled plan deps) i ≤ n → awaits_of (compiled plan deps) i (suc n) ≡ []
no_awaits-past plan deps i n h = ap (λ o. option_map_or (λ (a : Action). a.awaits) o []) (slice_get_past (actions_of (compiled plan deps) i) n h)

-- action n of agent i is its move in step x of the plan, and awaits what is awaited there
pub record IsActionIn (plan : Plan) (deps : Deps) (i n x : ℕ) : Type 0 where
  pub agent : i < length plan
  pub before : x < steps plan
  pub changes : changes_in plan i x ≡ true
  pub number : n ≡ suc (moves_by plan i x)
  pub awaits : awaits_of (compiled plan deps) i n ≡ entry_awaits plan deps i x

pub action_in-number : (plan : Plan) (deps : Deps) (i n : ℕ) → 1 ≤ n → n ≤ moves (compiled plan deps) i → (x : ℕ) × IsActionIn plan deps i n x × ((d : ℕ) → get_or (changes plan i (steps plan)) (n - 1) d ≡ x)
action_in-number plan deps i zero p h = absurd (omega arith)
action_in-number plan deps i (suc n) p h = elim (cases_lt i (length plan)) [
  | inl l ↦
      let m : n < moves_by plan i (steps plan) = omega (arith, moves-compiled plan deps i l) in
      let w = move_at plan i (steps plan) n m in
      (w.0, record { agent = l; before = w.1.before; changes = w.1.changes; number = ap suc (sym w.1.number); awaits = awaits-in plan deps i n w.0 l w.1 m }, λ d. ap (λ k. get_or (changes plan i (steps plan)) k d) (let e : suc n - 1 ≡ n = omega arith in e) ∙ w.1.listed d)
  | inr l ↦ absurd (omega (arith, no_moves-compiled plan deps i l))
]

pub awaits_cases : (plan : Plan) (deps : Deps) (i n : ℕ) → (awaits_of (compiled plan deps) i n ≡ []) ⊎ ((x : ℕ) × IsActionIn plan deps i n x)
awaits_cases plan deps i zero = inl refl
awaits_cases plan deps i (suc n) = elim (cases_lt n (moves (compiled plan deps) i)) [
  | inl l ↦ let w = action_in-number plan deps i (suc n) (omega arith) (omega arith) in inr (w.0, w.1)
  | inr l ↦ inl (no_awaits-past plan deps i n l)
]

-- the move of agent i in step x is that action
pub action_in-step : (plan : Plan) (deps : Deps) (i x : ℕ) → i < length plan → x < steps plan → changes_in plan i x ≡ true → IsActionIn plan deps i (suc (moves_by plan i x)) x
action_in-step plan deps i x h l c =
    let m : moves_by plan i x < moves_by plan i (steps plan) = omega (arith, moves_by-yes plan i x c, moves_by-mono plan i (suc x) (steps plan) l) in
    record {
      agent = h;
      before = l;
      changes = c;
      number = refl;
      awaits = awaits-in plan deps i (moves_by plan i x) x h (record { before = l; changes = c; number = refl; listed = λ d. listed_at plan i (steps plan) x d l c }) m;
    }

-- ---- its agents never stay

goes : (plan : Plan) (deps : Deps) (i : ℕ) (xs : List ℕ) (n : ℕ) (a : Action) → slice_get (map (action_in plan deps i) xs) n ≡ Some a → is_move a.step ≡ true
unfolding action_in
goes plan deps i [] n a e = absurd cc
goes plan deps i (x ∷ xs) zero a e = ap (λ (b : Action). is_move b.step) (sym (same_Some (action_in plan deps i x) a e))
goes plan deps i (x ∷ xs) (suc n) a e = goes plan deps i xs n a e

pub goes-compiled : (plan : Plan) (deps : Deps) (i : ℕ) → i < length plan → NeverDwells (compiled plan deps) i
goes-compiled plan deps i h n a e = goes plan deps i (changes plan i (steps plan)) n a (ap (λ xs. slice_get xs n) (sym (actions_of-compiled plan deps i h)) ∙ e)

-- each action is a move, whatever the plan
pub never_stays-compiled : (plan : Plan) (deps : Deps) → NeverStays (compiled plan deps)
unfolding compiled agent_program action_in
never_stays-compiled plan deps =
    All-map (λ (a : AgentProgram). AreMoves a.actions) (agent_program plan deps) (indices (length plan)) (λ k i l.
    let j = get_or (indices (length plan)) k i in
    All-map (λ (s : Action). IsTrue (is_move s.step)) (action_in plan deps j) (changes plan j (steps plan)) (λ m x h. refl))

-- ---- the path

module _ (passable : Place → Bool) (tasks : List Task) (plan : Plan) (free : IsConflictFree passable tasks plan) (deps : Deps) where
  walked_changes : (i t : ℕ) → i < length plan → walked (place_of (cell_of plan i 0)) (map (action_in plan deps i) (changes plan i t)) ≡ place_of (cell_of plan i t)
  unfolding action_in changes
  walked_changes i zero h = refl
  walked_changes i (suc t) h =
      let q = place_of (cell_of plan i 0) in
      let f = action_in plan deps i in
      let before = walked_changes i t h in
      elim (cases_Bool (changes_in plan i t)) [
        | inl c ↦
            ap (λ xs. walked q (map f xs)) (changes-yes plan i t c) ∙ ap (walked q) (map_push f (changes plan i t) t) ∙ walked_push q (map f (changes plan i t)) (f t) ∙ ap (λ z. stepped z (f t).step) before
            ∙ elim (free.successive i t h) [
              | inl e ↦ absurd (changes_in-ne plan i t c (rw add-one at e))
              | inr n ↦ moved_there (cell_of plan i t) (cell_of plan i (t + 1)) n ∙ ap (λ z. place_of (cell_of plan i z)) (add-one t)
            ]
        | inr c ↦ ap (λ xs. walked q (map f xs)) (changes-no plan i t c) ∙ before ∙ ap place_of (changes_in-same plan i t c)
      ]

  pub path-compiled : (i t : ℕ) → i < length plan → t ≤ steps plan → path (compiled plan deps) i (moves_by plan i t) ≡ place_of (cell_of plan i t)
  path-compiled i t h l =
      ap (λ c. walked (place_of c) (take (moves_by plan i t) (actions_of (compiled plan deps) i))) (start_of-compiled plan deps i h)
      ∙ ap (λ xs. walked (place_of (cell_of plan i 0)) (take (moves_by plan i t) xs)) (actions_of-compiled plan deps i h)
      ∙ ap (walked (place_of (cell_of plan i 0))) (take-map (action_in plan deps i) (moves_by plan i t) (changes plan i (steps plan)) ∙ ap (map (action_in plan deps i)) (take_changes plan i t (steps plan) l))
      ∙ walked_changes i t h
