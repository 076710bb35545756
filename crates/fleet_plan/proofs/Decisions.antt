-- Whether a plan has a fault, and which one is the first, is decided: by search among finitely many agents and times.
use Rattle.fleet_plan.proofs.Words.{◌≡◌, ◌≢◌, ℕ, zero, suc, ◌+◌, ◌-◌, ◌<◌, ◌≤◌, min, Bool, List, [], ◌∷◌, length, get_or, map, slice_index, slice_get, Option, Some, None, ◌⊎◌, inl, inr, refl, sym, ap, ◌∙◌, subst, arith, EachIndex, abs_diff, cases_eq, cases_lt, cases_Bool, Cell, Place, Task, place_of, IsCell, origin, cell_cases, Ground, cell_index, Conflict, Vertex, Swapping, Cycle, PlanFault, Plan, Path, cell_at, cell_of, last_cell, steps, IsPath, IsWithinLimits, IsConflictFree, IsFirstFaultyAgent, StartsOnStart, EndsOnGoal, IsRightAt, GoesOver, GoesRight, IsFirstTime, IsFirstStep, path_of, HasConflict, HasNoConflict, HasStartsAndGoals, time_of, IsFirstConflict, IsFirstPlanFault, ahead_of, Leads, IsOnRing, IsLeastOnRing, StandOnMap, StandOnPlaces, Meet, IsFirstMeeting, IsAhead, AreAhead, Exchange, IsFirstExchange, HasNoMeeting, IsFirstIn, IsFreeIn, MAX_CELLS}
use Rattle.fleet_plan.specs.declared.plan_fault.PlanFault.TheVariants as fault
use Rattle.fleet_plan.proofs.PathLaws.{beside_if, beside_only, right_at, not_on_ground, not_beside, right_all}
use Rattle.fleet_plan.proofs.RingLaws.{some_is, none_is_not, ahead_within, short_way}
use Rattle.fleet_plan.proofs.MeetLaws.{ahead_agents}
use Rattle.fleet_plan.proofs.SweepLaws.{HavePlaces, first_is, none_here, swept_all}
use Rattle.fleet_plan.proofs.FaultLaws.{free_from}

-- it is so or not
abbrev pub Decided : Type 0 → Type 0
Decided A = A ⊎ (A → ⊥)

-- the least number below n for which it is not so
abbrev FirstNot : (ℕ → Type 0) → ℕ → Type 0
FirstNot P n = (k : ℕ) × (k < n) × (P k → ⊥) × ((m : ℕ) → m < k → P m)

first_or_all : (P : ℕ → Type 0) → ((k : ℕ) → Decided (P k)) → (n : ℕ) → ((k : ℕ) → k < n → P k) ⊎ FirstNot P n
first_or_all P dec zero = inl (λ k l. absurd (omega arith))
first_or_all P dec (suc n) = elim (first_or_all P dec n) [
  | inl all ↦ elim (dec n) [
    | inl p ↦ inl (λ k l. elim (cases_eq k n) [ inl e ↦ subst P (sym e) p | inr ne ↦ all k (omega arith) ])
    | inr never ↦ inr (n, omega arith, never, all)
  ]
  | inr f ↦ inr (f.0, (let h : f.0 < n = f.1 in omega arith), f.2, f.3)
]

-- what is not refuted and is decided is so
is_so : (A : Type 0) → Decided A → ((A → ⊥) → ⊥) → A
is_so A (inl a) h = a
is_so A (inr never) h = absurd (h never)

-- ---- ends and steps

task_right : (o : Option Task) (c : Cell) (pick : Task → Cell) → Decided ((t : Task) → o ≡ Some t → c ≡ pick t)
task_right None c pick = inl (λ t e. absurd (cc))
task_right (Some u) c pick = elim (cell_cases c (pick u)) [
  | inl s ↦ inl (λ t e. s ∙ ap pick (let h : u ≡ t = cc in h))
  | inr never ↦ inr (λ h. never (h u refl))
]

step_right : (passable : Place → Bool) (path : Path) (t : ℕ) → Decided (IsRightAt passable path t)
step_right passable path t = elim (cases_Bool (passable (place_of (cell_at path t)))) [
  | inl clear ↦ elim (cases_lt 1 (abs_diff (cell_at path (t - 1)).x (cell_at path t).x + abs_diff (cell_at path (t - 1)).y (cell_at path t).y)) [
    | inl far ↦ inr (not_beside passable path t (cell_at path (t - 1)) (cell_at path t) refl refl (λ n. let l = beside_only (cell_at path (t - 1)) (cell_at path t) n in omega arith))
    | inr near ↦ inl (right_at passable path t (cell_at path (t - 1)) (cell_at path t) refl refl clear (beside_if (cell_at path (t - 1)) (cell_at path t) near))
  ]
  | inr shut ↦ inr (not_on_ground passable path t (cell_at path t) refl shut)
]

path_right : (passable : Place → Bool) (path : Path) → 1 ≤ length path → GoesOver passable path ⊎ ((t : ℕ) × IsFirstTime passable path t)
path_right passable path some = elim (first_or_all (IsRightAt passable path) (step_right passable path) (length path)) [
  | inl all ↦ inl (right_all passable path (length path) some (omega arith) all)
  | inr f ↦ inr (f.0, record { wrong = f.2; least = f.3 })
]

-- ---- who is ahead of whom

-- a list of so many places, each of which is as asked
build : (n : ℕ) (R : ℕ → Option ℕ → Type 0) → ((i : ℕ) → (o : Option ℕ) × R i o) → (xs : List (Option ℕ)) × (length xs ≡ n) × ((i : ℕ) → i < n → R i (get_or xs i None))
build zero R f = ([], refl, λ i l. absurd (omega arith))
build (suc n) R f =
    let rest = build n (λ i. R (suc i)) (λ i. f (suc i)) in
    ((f 0).0 ∷ rest.0, ap (λ m. suc m) rest.1, each rest.0 rest.2)
  where
    each : (xs : List (Option ℕ)) → ((i : ℕ) → i < n → R (suc i) (get_or xs i None)) → (i : ℕ) → i < suc n → R i (get_or ((f 0).0 ∷ xs) i None)
    each xs h zero l = (f 0).1
    each xs h (suc i) l = h i (omega arith)

who_ahead : (places next : List ℕ) (i : ℕ) → (o : Option ℕ) × IsAhead places next i o
who_ahead places next i = elim (cases_eq (slice_index next i) (slice_index places i)) [
  | inl s ↦ (None, inl s)
  | inr ne ↦ elim (first_or_all (λ j. slice_index places j ≢ slice_index next i) (λ j. not_equal (slice_index places j) (slice_index next i)) (length places)) [
    | inl all ↦ (None, inr all)
    | inr f ↦ (Some f.0, (ne, f.1, equal (slice_index places f.0) (slice_index next i) f.2))
  ]
]
  where
    not_equal : (a b : ℕ) → Decided (a ≢ b)
    not_equal a b = elim (cases_eq a b) [ inl e ↦ inr (λ ne. ne e) | inr ne ↦ inl ne ]

    equal : (a b : ℕ) → ((a ≢ b) → ⊥) → a ≡ b
    equal a b h = is_so (a ≡ b) (cases_eq a b) h

all_ahead : (places next : List ℕ) → (ahead : List (Option ℕ)) × AreAhead places next ahead
all_ahead places next =
    let made = build (length places) (IsAhead places next) (who_ahead places next) in
    (made.0, record { all = made.1; each = made.2 })

-- ---- meetings

abbrev Apart : List ℕ → ℕ → ℕ → Type 0
Apart places i j = i < j → slice_index places i ≢ slice_index places j

apart : (places : List ℕ) (i j : ℕ) → Decided (Apart places i j)
apart places i j = elim (cases_lt i j) [
  | inl l ↦ elim (cases_eq (slice_index places i) (slice_index places j)) [ inl e ↦ inr (λ h. h l e) | inr ne ↦ inl (λ g. ne) ]
  | inr l ↦ inl (λ g. absurd (omega arith))
]

abbrev Alone : List ℕ → ℕ → Type 0
Alone places i = (j : ℕ) → j < length places → Apart places i j

alone_or : (places : List ℕ) (i : ℕ) → Alone places i ⊎ FirstNot (Apart places i) (length places)
alone_or places i = first_or_all (Apart places i) (apart places i) (length places)

alone : (places : List ℕ) (i : ℕ) → Decided (Alone places i)
alone places i = elim (alone_or places i) [ inl a ↦ inl a | inr f ↦ inr (λ a. f.2 (a f.0 f.1)) ]

meets : (places : List ℕ) (i j : ℕ) → j < length places → (Apart places i j → ⊥) → Meet places i j
meets places i j l never = elim (cases_lt i j) [
  | inl o ↦ record { order = o; agents = l; same = is_so (slice_index places i ≡ slice_index places j) (cases_eq (slice_index places i) (slice_index places j)) (λ ne. never (λ g. ne)) }
  | inr o ↦ absurd (never (λ g. absurd (omega arith)))
]

pub meeting_or : (places : List ℕ) → HasNoMeeting places ⊎ ((i j : ℕ) × IsFirstMeeting places i j)
meeting_or places = elim (first_or_all (Alone places) (alone places) (length places)) [
  | inl all ↦ inl (λ i j m. let o : i < j = m.order in let l : j < length places = m.agents in all i (omega arith) j l o m.same)
  | inr f ↦ elim (alone_or places f.0) [
    | inl a ↦ absurd (f.2 a)
    | inr g ↦ inr (f.0, g.0, record { meet = meets places f.0 g.0 g.1 g.2; first = first f.0 g.0 f.3 g.3 })
  ]
]
  where
    first : (i j : ℕ) → ((m : ℕ) → m < i → Alone places m) → ((m : ℕ) → m < j → Apart places i m) → (k l : ℕ) → Meet places k l → (i < k) ⊎ ((i ≡ k) × (j ≤ l))
    first i j before least k l m = elim (cases_lt k i) [
      | inl h ↦ absurd (before k h l m.agents m.order m.same)
      | inr h ↦ elim (cases_eq i k) [
        | inl e ↦ elim (cases_lt l j) [
          | inl g ↦ absurd (least l g (let o : k < l = m.order in omega arith) (ap (slice_index places) e ∙ m.same))
          | inr g ↦ inr (e, g)
        ]
        | inr ne ↦ inl (omega arith)
      ]
    ]

-- ---- exchanges

abbrev NoExchange : List (Option ℕ) → ℕ → Type 0
NoExchange ahead i = (j : ℕ) → Exchange ahead i j → ⊥

exchange_or : (ahead : List (Option ℕ)) (i : ℕ) → NoExchange ahead i ⊎ ((j : ℕ) × Exchange ahead i j)
exchange_or ahead i = go (ahead_of ahead i) refl
  where
    back : (j : ℕ) (o : Option ℕ) → ahead_of ahead i ≡ Some j → ahead_of ahead j ≡ o → NoExchange ahead i ⊎ ((j : ℕ) × Exchange ahead i j)
    back j None e f = inl (λ k x. let s : j ≡ k = some_is j k (ahead_of ahead i) e x.there in none_is_not i (ahead_of ahead k) x.back (ap (ahead_of ahead) (sym s) ∙ f))
    back j (Some m) e f = elim (cases_eq m i) [
      | inl s ↦ inr (j, record { there = e; back = f ∙ ap (λ (z : ℕ). Some z) s })
      | inr ne ↦ inl (λ k x. let s : j ≡ k = some_is j k (ahead_of ahead i) e x.there in ne (some_is m i (ahead_of ahead j) f (ap (ahead_of ahead) s ∙ x.back)))
    ]

    go : (o : Option ℕ) → ahead_of ahead i ≡ o → NoExchange ahead i ⊎ ((j : ℕ) × Exchange ahead i j)
    go None e = inl (λ k x. none_is_not k (ahead_of ahead i) x.there e)
    go (Some j) e = back j (ahead_of ahead j) e refl

no_exchange : (ahead : List (Option ℕ)) (i : ℕ) → Decided (NoExchange ahead i)
no_exchange ahead i = elim (exchange_or ahead i) [ inl n ↦ inl n | inr x ↦ inr (λ n. n x.0 x.1) ]

first_exchange_or : (ahead : List (Option ℕ)) → ((i j : ℕ) → Exchange ahead i j → ⊥) ⊎ ((i j : ℕ) × IsFirstExchange ahead i j)
first_exchange_or ahead = elim (first_or_all (NoExchange ahead) (no_exchange ahead) (length ahead)) [
  | inl all ↦ inl (λ i j x. all i (ahead_within ahead i j x.there) j x)
  | inr f ↦ elim (exchange_or ahead f.0) [
    | inl n ↦ absurd (f.2 n)
    | inr x ↦ inr (f.0, x.0, record { exchange = x.1; first = λ k l y. elim (cases_lt k f.0) [ inl h ↦ absurd (f.3 k h l y) | inr h ↦ h ] })
  ]
]

-- ---- rings

abbrev LeadsBy : List (Option ℕ) → ℕ → ℕ → ℕ → Type 0
LeadsBy ahead k i e = (js : List ℕ) × Leads ahead i js e × (length js ≡ k)

leads_by : (ahead : List (Option ℕ)) (k i e : ℕ) → Decided (LeadsBy ahead k i e)
leads_by ahead zero i e = elim (cases_eq i e) [ inl s ↦ inl ([], s, refl) | inr ne ↦ inr (none ne) ]
  where
    none : (i ≡ e → ⊥) → LeadsBy ahead zero i e → ⊥
    none ne ([], f, l) = ne f
    none ne (j ∷ js, f, l) = absurd (omega arith)
leads_by ahead (suc k) i e = go (λ m. leads_by ahead k m e) (ahead_of ahead i) refl
  where
    go : ((m : ℕ) → Decided (LeadsBy ahead k m e)) → (o : Option ℕ) → ahead_of ahead i ≡ o → Decided (LeadsBy ahead (suc k) i e)
    go shorter None h = inr none
      where
        none : LeadsBy ahead (suc k) i e → ⊥
        none ([], f, l) = absurd (omega arith)
        none (j ∷ js, f, l) = none_is_not j (ahead_of ahead i) f.0 h
    go shorter (Some m) h = elim (shorter m) [
      | inl f ↦ inl (m ∷ f.0, (h, f.1), ap (λ n. suc n) f.2)
      | inr never ↦ inr (none never)
    ]
      where
        none : (LeadsBy ahead k m e → ⊥) → LeadsBy ahead (suc k) i e → ⊥
        none never ([], f, l) = absurd (omega arith)
        none never (j ∷ js, f, l) = never (js, subst (λ z. Leads ahead z js e) (some_is j m (ahead_of ahead i) f.0 h) f.1, omega arith)

on_ring : (places next : List ℕ) (ahead : List (Option ℕ)) → AreAhead places next ahead → (i : ℕ) → Decided (IsOnRing ahead i)
on_ring places next ahead are i = elim (first_or_all (λ k. LeadsBy ahead (suc k) i i → ⊥) (λ k. neither k (leads_by ahead (suc k) i i)) (length ahead)) [
  | inl all ↦ inr (λ r. let s = short_way ahead (ahead_agents places next ahead are) i r in all (length s.1) (let h : length s.1 + 1 ≤ length ahead = s.3 in omega arith) (s.0 ∷ s.1, s.2, refl))
  | inr f ↦ inl (ring f.0 (is_so (LeadsBy ahead (suc f.0) i i) (leads_by ahead (suc f.0) i i) f.2))
]
  where
    neither : (k : ℕ) → Decided (LeadsBy ahead (suc k) i i) → Decided (LeadsBy ahead (suc k) i i → ⊥)
    neither k (inl f) = inr (λ never. never f)
    neither k (inr never) = inl never

    ring : (k : ℕ) → LeadsBy ahead (suc k) i i → IsOnRing ahead i
    ring k ([], f, l) = absurd (omega arith)
    ring k (j ∷ js, f, l) = record { next = j; ahead_is = f.0; back = (js, f.1) }

first_ring_or : (places next : List ℕ) (ahead : List (Option ℕ)) → AreAhead places next ahead → ((i : ℕ) → IsOnRing ahead i → ⊥) ⊎ ((i : ℕ) × IsLeastOnRing ahead i)
first_ring_or places next ahead are = elim (first_or_all (λ i. IsOnRing ahead i → ⊥) (λ i. neither i (dec i)) (length ahead)) [
  | inl all ↦ inl (λ i r. all i (ahead_within ahead i r.next r.ahead_is) r)
  | inr f ↦ inr (f.0, record { ring = is_so (IsOnRing ahead f.0) (dec f.0) f.2; least = λ j r. elim (cases_lt j f.0) [ inl h ↦ absurd (f.3 j h r) | inr h ↦ h ] })
]
  where
    dec : (i : ℕ) → Decided (IsOnRing ahead i)
    dec = on_ring places next ahead are

    neither : (i : ℕ) → Decided (IsOnRing ahead i) → Decided (IsOnRing ahead i → ⊥)
    neither i (inl r) = inr (λ never. never r)
    neither i (inr never) = inl never

-- ---- one step

free_or_first : (places next : List ℕ) (t : ℕ) → IsFreeIn places next ⊎ ((c : Conflict) × IsFirstIn places next t c)
free_or_first places next t =
    let a = all_ahead places next in
    elim (meeting_or places) [
      | inr m ↦ inr (Vertex t m.0 m.1, (refl, m.2))
      | inl lone ↦ elim (first_exchange_or a.0) [
        | inr x ↦ inr (Swapping t x.0 x.1, (refl, lone, (a.0, a.1, x.2)))
        | inl none ↦ elim (first_ring_or places next a.0 a.1) [
          | inr r ↦ inr (Cycle t r.0, (refl, (a.0, a.1, record { apart = lone; none = none }, r.1)))
          | inl never ↦ inl (record { ahead = a.0; are_ahead = a.1; none = record { apart = lone; none = none }; no_ring = never })
        ]
      ]
    ]

-- ---- all steps, on a map that has every cell whose numbers fit two bytes

abbrev box : Ground
box = record { width = MAX_CELLS; height = MAX_CELLS; rows = [] }

in_box : (plan : Plan) → IsWithinLimits plan → StandOnMap box plan
unfolding cell_of cell_at
in_box plan limits i t l =
    let path = path_of plan i in
    let p : IsPath path = limits.paths i [] l in
    let some : 1 ≤ length path = p.some_cells in
    let c : IsCell (get_or path (min t (length path - 1)) origin) = p.cells (min t (length path - 1)) origin (omega arith) in
    let x = c.x in
    let y = c.y in
    (omega (arith, x), omega (arith, y))

places_at : Plan → ℕ → List ℕ
places_at plan t = map (λ (path : Path). cell_index box (cell_at path t)) plan

are_places : (plan : Plan) (t : ℕ) → StandOnPlaces box plan t (places_at plan t)
unfolding places_at cell_of
are_places plan t = record { all = all plan; each = each plan }
  where
    all : (plan : Plan) → length (map (λ (path : Path). cell_index box (cell_at path t)) plan) ≡ length plan
    all [] = refl
    all (path ∷ plan) = ap (λ n. suc n) (all plan)

    each : (plan : Plan) (i : ℕ) → i < length plan → get_or (map (λ (path : Path). cell_index box (cell_at path t)) plan) i 0 ≡ cell_index box (cell_at (get_or plan i []) t)
    each [] i l = absurd (omega arith)
    each (path ∷ plan) zero l = refl
    each (path ∷ plan) (suc i) l = each plan i (omega arith)

conflict_or : HavePlaces → (plan : Plan) → IsWithinLimits plan → HasNoConflict plan ⊎ ((c : Conflict) × IsFirstConflict plan c)
conflict_or have plan limits = go (steps plan + 1) 0 (omega arith) (λ d h. omega arith)
  where
    go : (n t : ℕ) → t + n ≡ steps plan + 1 → ((d : Conflict) → HasConflict plan d → t ≤ time_of d) → HasNoConflict plan ⊎ ((c : Conflict) × IsFirstConflict plan c)
    go zero t e earlier = inl (swept_all plan t earlier (omega arith))
    go (suc n) t e earlier =
        let now = are_places plan t in
        let then = are_places plan (t + 1) in
        elim (free_or_first (places_at plan t) (places_at plan (t + 1)) t) [
          | inr f ↦ inr (f.0, first_is have box plan (in_box plan limits) t (places_at plan t) (places_at plan (t + 1)) now then earlier f.0 f.1)
          | inl free ↦ go n (t + 1) (omega arith) (none_here have box plan (in_box plan limits) t (places_at plan t) (places_at plan (t + 1)) now then earlier free)
        ]

-- ---- the whole

same_length : (plan : Plan) (tasks : List Task) → Decided (length plan ≡ length tasks)
same_length plan tasks = cases_eq (length plan) (length tasks)

abbrev HasFault : (Place → Bool) → List Task → Plan → Type 0
HasFault passable tasks plan = (f : PlanFault) × IsFirstPlanFault passable tasks plan f

agent_or : (plan : Plan) (P : ℕ → Type 0) → ((i : ℕ) → Decided (P i)) → EachIndex plan P ⊎ ((i : ℕ) × IsFirstFaultyAgent plan P i)
agent_or plan P dec = elim (first_or_all P dec (length plan)) [
  | inl all ↦ inl all
  | inr f ↦ inr (f.0, record { agent = f.1; wrong = f.2; least = f.3 })
]

goes_or : (passable : Place → Bool) (plan : Plan) → IsWithinLimits plan → EachIndex plan (GoesRight passable plan) ⊎ ((i t : ℕ) × IsFirstStep passable plan i t)
goes_or passable plan limits = go (length plan) (omega arith)
  where
    some : (i : ℕ) → i < length plan → 1 ≤ length (path_of plan i)
    some i l = (limits.paths i [] l).some_cells

    go : (n : ℕ) → n ≤ length plan → ((i : ℕ) → i < n → GoesRight passable plan i) ⊎ ((i t : ℕ) × IsFirstStep passable plan i t)
    go zero h = inl (λ i l. absurd (omega arith))
    go (suc n) h = elim (go n (omega arith)) [
      | inr f ↦ inr f
      | inl all ↦ elim (path_right passable (path_of plan n) (some n (omega arith))) [
        | inl r ↦ inl (λ i l. elim (cases_eq i n) [ inl e ↦ subst (GoesRight passable plan) (sym e) r | inr ne ↦ all i (omega arith) ])
        | inr w ↦ inr (n, w.0, record { agent = omega arith; time = w.1; least = all })
      ]
    ]

pub free_or_fault : HavePlaces → (passable : Place → Bool) (tasks : List Task) (plan : Plan) → IsWithinLimits plan → IsConflictFree passable tasks plan ⊎ HasFault passable tasks plan
free_or_fault have passable tasks plan limits = elim (same_length plan tasks) [
  | inr ne ↦ inr (fault.Agents, ne)
  | inl e ↦ elim (agent_or plan (StartsOnStart tasks plan) (λ i. task_right (slice_get tasks i) (cell_of plan i 0) (λ t. t.start))) [
    | inr f ↦ inr (fault.Start f.0, (e, f.1))
    | inl starts ↦ elim (agent_or plan (EndsOnGoal tasks plan) (λ i. task_right (slice_get tasks i) (last_cell plan i) (λ t. t.goal))) [
      | inr f ↦ inr (fault.Goal f.0, (e, starts, f.1))
      | inl goals ↦ on (record { agents = e; starts = starts; goals = goals })
    ]
  ]
]
  where
    on : HasStartsAndGoals tasks plan → IsConflictFree passable tasks plan ⊎ HasFault passable tasks plan
    on ends = elim (goes_or passable plan limits) [
      | inr f ↦ inr (fault.Step f.0 f.1, (ends, f.2))
      | inl goes ↦ elim (conflict_or have plan limits) [
        | inr f ↦ inr (fault.Conflict f.0, (ends, goes, f.1))
        | inl none ↦ inl (free_from passable tasks plan ends goes none)
      ]
    ]
