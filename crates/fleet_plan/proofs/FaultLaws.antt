-- Freedom of conflict, and first faults.
use Rattle.fleet_plan.proofs.Words.{◌≡◌, ℕ, zero, suc, ◌+◌, ◌<◌, ◌≤◌, Bool, List, [], ◌∷◌, length, get_or, All, Contains, ◌⊎◌, inl, inr, refl, sym, ap, subst, arith, EachIndex, cases_lt, cases_order, slice_get_within, Place, Task, HasVertexConflict, HasSwappingConflict, Conflict, Vertex, Swapping, Cycle, PlanFault, Plan, cell_at, cell_of, motion_of, AreNeighbours, IsConflictFree, IsFirstFaultyAgent, StartsOnStart, EndsOnGoal, IsRightAt, GoesRight, IsFirstStep, HasNoConflict, HasStartsAndGoals, time_of, IsPairUpTo, IsKindUpTo, IsConflictUpTo, IsFirstConflict, IsFirstPlanFault, path_of}
use Rattle.fleet_plan.specs.declared.plan_fault.PlanFault.TheVariants as fault

-- the least of numbers
abbrev HasLeast : List ℕ → Type 0
HasLeast xs = (m : ℕ) × Contains xs m × All (λ x. m ≤ x) xs

least_of : (x : ℕ) (xs : List ℕ) → HasLeast (x ∷ xs)
least_of x [] = (x, (0, omega arith, refl), only)
  where
    only : All (λ y. x ≤ y) (x ∷ [])
    only zero d l = omega arith
    only (suc k) d l = absurd (omega arith)
least_of x (y ∷ ys) = go (least_of y ys)
  where
    go : HasLeast (y ∷ ys) → HasLeast (x ∷ y ∷ ys)
    go (m, among, least) = elim (cases_lt x m) [
      | inl l ↦ (x, (0, omega arith, refl), here l)
      | inr l ↦ (m, (suc among.0, (let h : among.0 < length (y ∷ ys) = among.1 in omega arith), among.2), there l)
    ]
      where
        here : x < m → All (λ z. x ≤ z) (x ∷ y ∷ ys)
        here l zero d h = omega arith
        here l (suc k) d h = let g : m ≤ get_or (y ∷ ys) k d = least k d (omega arith) in omega arith

        there : m ≤ x → All (λ z. m ≤ z) (x ∷ y ∷ ys)
        there l zero d h = l
        there l (suc k) d h = least k d (omega arith)

some_least : (xs : List ℕ) → 3 ≤ length xs → HasLeast xs
some_least [] l = absurd (omega arith)
some_least (x ∷ xs) l = least_of x xs

-- all is right, and nobody is in conflict
pub free_from : (passable : Place → Bool) (tasks : List Task) (plan : Plan) → HasStartsAndGoals tasks plan → EachIndex plan (GoesRight passable plan) → HasNoConflict plan → IsConflictFree passable tasks plan
unfolding cell_of
free_from passable tasks plan ends goes none = record {
  agents = ends.agents;
  ends = λ i t e. let l : i < length plan = (let h : i < length tasks = slice_get_within tasks i t e in omega (arith, ends.agents)) in (ends.starts i l t e, ends.goals i l t e);
  on_ground = λ i x l. (goes i l x).on_ground;
  successive = λ i x l. (goes i l (x + 1)).successive x refl;
  vertex = vertex;
  swapping = swapping;
  cycle = λ x ring a c. let m = some_least ring c.three in none (Cycle x m.0) (ring, record { agents = a; conflict = c; among = m.1; least_one = m.2 });
}
  where
    vertex : (x i j : ℕ) → i < length plan → j < length plan → HasVertexConflict (motion_of plan) x i j → ⊥
    vertex x i j li lj c = elim (cases_order i j) [
      | inl e ↦ c.apart e
      | inr u ↦ elim u [
        | inl l ↦ none (Vertex x i j) (l, lj, c)
        | inr l ↦ none (Vertex x j i) (l, li, record { apart = λ e. c.apart (sym e); same = sym c.same })
      ]
    ]

    swapping : (x i j : ℕ) → i < length plan → j < length plan → HasSwappingConflict (motion_of plan) x i j → ⊥
    swapping x i j li lj c = elim (cases_order i j) [
      | inl e ↦ c.apart e
      | inr u ↦ elim u [
        | inl l ↦ none (Swapping x i j) (l, lj, c)
        | inr l ↦ none (Swapping x j i) (l, li, record { apart = λ e. c.apart (sym e); there = c.back; back = c.there; changed = λ e. c.changed (sym e) })
      ]
    ]

pub conflict_free : (passable : Place → Bool) (tasks : List Task) (plan : Plan) → IsConflictFree passable tasks plan → HasNoConflict plan
conflict_free passable tasks plan free (Vertex x i j) h = let a : i < j = h.0 in let b : j < length plan = h.1 in free.vertex x i j (omega arith) b h.2
conflict_free passable tasks plan free (Swapping x i j) h = let a : i < j = h.0 in let b : j < length plan = h.1 in free.swapping x i j (omega arith) b h.2
conflict_free passable tasks plan free (Cycle x least) h = free.cycle x h.0 h.1.agents h.1.conflict

right_at : (passable : Place → Bool) (tasks : List Task) (plan : Plan) → IsConflictFree passable tasks plan → (i t : ℕ) → i < length plan → IsRightAt passable (path_of plan i) t
unfolding cell_of
right_at passable tasks plan free i t l = record {
  on_ground = free.on_ground i t l;
  successive = λ s e. subst (λ z. (cell_at (path_of plan i) s ≡ cell_at (path_of plan i) z) ⊎ AreNeighbours (cell_at (path_of plan i) s) (cell_at (path_of plan i) z)) (sym e) (free.successive i s l);
}

-- a plan with a first fault is not free
pub not_free : (passable : Place → Bool) (tasks : List Task) (plan : Plan) (f : PlanFault) → IsFirstPlanFault passable tasks plan f → IsConflictFree passable tasks plan → ⊥
not_free passable tasks plan fault.OutOfMemory h free = h
not_free passable tasks plan fault.Agents h free = h free.agents
not_free passable tasks plan (fault.Start i) h free = h.1.wrong (λ t e. (free.ends i t e).0)
not_free passable tasks plan (fault.Goal i) h free = h.2.wrong (λ t e. (free.ends i t e).1)
not_free passable tasks plan (fault.Step i t) h free = h.1.time.wrong (right_at passable tasks plan free i t h.1.agent)
not_free passable tasks plan (fault.Conflict c) h free = conflict_free passable tasks plan free c h.2.conflict

-- ---- one first fault at most

one_agent : (plan : Plan) (P : ℕ → Type 0) (i k : ℕ) → IsFirstFaultyAgent plan P i → IsFirstFaultyAgent plan P k → i ≡ k
one_agent plan P i k a b = elim (cases_order i k) [
  | inl e ↦ e
  | inr u ↦ absurd (elim u [ inl l ↦ a.wrong (b.least i l) | inr l ↦ b.wrong (a.least k l) ])
]

one_step : (passable : Place → Bool) (plan : Plan) (i t k s : ℕ) → IsFirstStep passable plan i t → IsFirstStep passable plan k s → (i ≡ k) × (t ≡ s)
one_step passable plan i t k s a b = elim (cases_order i k) [
  | inl e ↦ (
    e,
    elim (cases_order t s) [
      | inl f ↦ f
      | inr u ↦ absurd (elim u [
        | inl l ↦ a.time.wrong (subst (λ z. IsRightAt passable (path_of plan z) t) (sym e) (b.time.least t l))
        | inr l ↦ b.time.wrong (subst (λ z. IsRightAt passable (path_of plan z) s) e (a.time.least s l))
      ])
    ],
  )
  | inr u ↦ absurd (elim u [ inl l ↦ a.time.wrong (b.least i l t) | inr l ↦ b.time.wrong (a.least k l s) ])
]

one_conflict : (plan : Plan) (c d : Conflict) → IsFirstConflict plan c → IsFirstConflict plan d → c ≡ d
one_conflict plan c d a b = same c d (a.first d b.conflict) (b.first c a.conflict)
  where
    pair : (i j k l : ℕ) → IsPairUpTo i j k l → IsPairUpTo k l i j → (i ≡ k) × (j ≡ l)
    pair i j k l u v = (grind arith, grind arith)

    kind : (c d : Conflict) → IsConflictUpTo c d → IsConflictUpTo d c → (time_of c ≡ time_of d) × IsKindUpTo c d × IsKindUpTo d c
    kind c d (inl l) (inl m) = absurd (omega arith)
    kind c d (inl l) (inr m) = absurd (omega (arith, m.0))
    kind c d (inr l) (inl m) = absurd (omega (arith, l.0))
    kind c d (inr l) (inr m) = (l.0, l.1, m.1)

    equal : (c d : Conflict) → (time_of c ≡ time_of d) × IsKindUpTo c d × IsKindUpTo d c → c ≡ d
    equal (Vertex x i j) (Vertex y k l) h = let p = pair i j k l h.1 h.2 in λ z. Vertex (h.0 z) (p.0 z) (p.1 z)
    equal (Vertex x i j) (Swapping y k l) h = absurd h.2
    equal (Vertex x i j) (Cycle y b) h = absurd h.2
    equal (Swapping x i j) (Vertex y k l) h = absurd h.1
    equal (Swapping x i j) (Swapping y k l) h = let p = pair i j k l h.1 h.2 in λ z. Swapping (h.0 z) (p.0 z) (p.1 z)
    equal (Swapping x i j) (Cycle y b) h = absurd h.2
    equal (Cycle x a) (Vertex y k l) h = absurd h.1
    equal (Cycle x a) (Swapping y k l) h = absurd h.1
    equal (Cycle x a) (Cycle y b) h = let le : a ≤ b = h.1 in let ge : b ≤ a = h.2 in let e : a ≡ b = omega arith in λ z. Cycle (h.0 z) (e z)

    same : (c d : Conflict) → IsConflictUpTo c d → IsConflictUpTo d c → c ≡ d
    same c d u v = equal c d (kind c d u v)

module _ (passable : Place → Bool) (tasks : List Task) (plan : Plan) where
  abbrev First : PlanFault → Type 0
  First = IsFirstPlanFault passable tasks plan

  pub one_fault : (e f : PlanFault) → First e → First f → e ≡ f
  one_fault fault.OutOfMemory f h g = absurd h
  one_fault e fault.OutOfMemory h g = absurd g
  one_fault fault.Agents fault.Agents h g = refl
  one_fault fault.Agents (fault.Start k) h g = absurd (h g.0)
  one_fault fault.Agents (fault.Goal k) h g = absurd (h g.0)
  one_fault fault.Agents (fault.Step k s) h g = absurd (h g.0.agents)
  one_fault fault.Agents (fault.Conflict d) h g = absurd (h g.0.agents)
  one_fault (fault.Start i) fault.Agents h g = absurd (g h.0)
  one_fault (fault.Start i) (fault.Start k) h g = ap (λ (z : ℕ). fault.Start z) (one_agent plan (StartsOnStart tasks plan) i k h.1 g.1)
  one_fault (fault.Start i) (fault.Goal k) h g = absurd (h.1.wrong (g.1 i h.1.agent))
  one_fault (fault.Start i) (fault.Step k s) h g = absurd (h.1.wrong (g.0.starts i h.1.agent))
  one_fault (fault.Start i) (fault.Conflict d) h g = absurd (h.1.wrong (g.0.starts i h.1.agent))
  one_fault (fault.Goal i) fault.Agents h g = absurd (g h.0)
  one_fault (fault.Goal i) (fault.Start k) h g = absurd (g.1.wrong (h.1 k g.1.agent))
  one_fault (fault.Goal i) (fault.Goal k) h g = ap (λ (z : ℕ). fault.Goal z) (one_agent plan (EndsOnGoal tasks plan) i k h.2 g.2)
  one_fault (fault.Goal i) (fault.Step k s) h g = absurd (h.2.wrong (g.0.goals i h.2.agent))
  one_fault (fault.Goal i) (fault.Conflict d) h g = absurd (h.2.wrong (g.0.goals i h.2.agent))
  one_fault (fault.Step i t) fault.Agents h g = absurd (g h.0.agents)
  one_fault (fault.Step i t) (fault.Start k) h g = absurd (g.1.wrong (h.0.starts k g.1.agent))
  one_fault (fault.Step i t) (fault.Goal k) h g = absurd (g.2.wrong (h.0.goals k g.2.agent))
  one_fault (fault.Step i t) (fault.Step k s) h g = let p = one_step passable plan i t k s h.1 g.1 in λ z. fault.Step (p.0 z) (p.1 z)
  one_fault (fault.Step i t) (fault.Conflict d) h g = absurd (h.1.time.wrong (g.1 i h.1.agent t))
  one_fault (fault.Conflict c) fault.Agents h g = absurd (g h.0.agents)
  one_fault (fault.Conflict c) (fault.Start k) h g = absurd (g.1.wrong (h.0.starts k g.1.agent))
  one_fault (fault.Conflict c) (fault.Goal k) h g = absurd (g.2.wrong (h.0.goals k g.2.agent))
  one_fault (fault.Conflict c) (fault.Step k s) h g = absurd (g.1.time.wrong (h.1 k g.1.agent s))
  one_fault (fault.Conflict c) (fault.Conflict d) h g = ap (λ (z : Conflict). fault.Conflict z) (one_conflict plan c d h.2 g.2)
