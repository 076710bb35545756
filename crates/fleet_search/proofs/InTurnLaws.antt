-- Plans that are made agent by agent are free of conflict.
use Rattle.fleet_search.proofs.Words.{◌≡◌, ℕ, ◌+◌, ◌<◌, ◌≤◌, Bool, List, [], ◌∷◌, ◌++◌, length, take, get_or, Some, inl, inr, sym, ap, ◌∙◌, subst, arith, slice_get, option_map, cases_eq, slice_get_within, slice_get-get_or, same_Some, get_or_append_left, get_or_push, take-append-le, take_at, length_push, Cell, Place, origin, Task, Plan, cell_of, last_cell, IsConflictFree, FitTogether, IsEarliest, IsInfeasible, IsPrioritisedPlan, HasNoPathFor, PlanStop, OutOfMemory}
use Rattle.fleet_search.specs.declared.fault.PlanStop.TheVariants.{NoPath}
use Rattle.fleet_search.proofs.OneByOne.{one_by_one}

nobody : Task
nobody = record { start = origin; goal = origin }

-- the task of an agent that the instance has
pub task_of : (tasks : List Task) (i : ℕ) → i < length tasks → (t : Task) × (slice_get tasks i ≡ Some t)
task_of tasks i h = (get_or tasks i nobody, slice_get-get_or tasks i nobody h)

pub in_turn_together : (passable : Place → Bool) (tasks : List Task) (horizon n : ℕ) (plan : Plan) → n ≤ length tasks → IsPrioritisedPlan passable tasks horizon n plan → FitTogether plan
in_turn_together passable tasks horizon n plan few made i h =
    let l : i < n = (let a = made.agents in omega arith) in
    let t = task_of tasks i (omega arith) in
    (made.each i t.0 l t.1).way.fits

pub in_turn_free : (passable : Place → Bool) (tasks : List Task) (horizon : ℕ) (plan : Plan) → IsPrioritisedPlan passable tasks horizon (length tasks) plan → IsConflictFree passable tasks plan
unfolding cell_of last_cell
in_turn_free passable tasks horizon plan made =
    let free = one_by_one plan (in_turn_together passable tasks horizon (length tasks) plan (omega arith) made) in
    let way = λ (i : ℕ) (h : i < length plan). (let l : i < length tasks = (let a = made.agents in omega arith) in let t = task_of tasks i l in (made.each i t.0 l t.1).way) in
    record {
      agents = made.agents;
      ends = λ i t h. let w = (made.each i t (slice_get_within tasks i t h) h).way in (w.starts, w.ends);
      on_ground = λ i x h. (way i h).on_ground x;
      successive = λ i x h. (way i h).successive x;
      vertex = free.vertex;
      swapping = free.swapping;
      cycle = free.cycle;
    }

-- what was read of the agent's task is the task
pub read_task : (tasks : List Task) (n : ℕ) (start goal : Cell) → option_map (λ (t : Task). t.start) (slice_get tasks n) ≡ Some start → option_map (λ (t : Task). t.goal) (slice_get tasks n) ≡ Some goal → (t : Task) → slice_get tasks n ≡ Some t → (start ≡ t.start) × (goal ≡ t.goal)
read_task tasks n start goal a b t e = (
  sym (same_Some t.start start (sym (ap (option_map (λ (z : Task). z.start)) e) ∙ a)),
  sym (same_Some t.goal goal (sym (ap (option_map (λ (z : Task). z.goal)) e) ∙ b)),
)

pub in_turn-more : (passable : Place → Bool) (tasks : List Task) (horizon n : ℕ) (plan all : Plan) (path : List Cell) (start goal : Cell) → IsPrioritisedPlan passable tasks horizon n plan → option_map (λ (t : Task). t.start) (slice_get tasks n) ≡ Some start → option_map (λ (t : Task). t.goal) (slice_get tasks n) ≡ Some goal → IsEarliest passable plan start goal horizon path → all ≡ plan ++ path ∷ [] → IsPrioritisedPlan passable tasks horizon (n + 1) all
in_turn-more passable tasks horizon n plan all path start goal made a b here e = subst (IsPrioritisedPlan passable tasks horizon (n + 1)) (sym e) (record {
  agents = length_push plan path ∙ ap (λ z. z + 1) made.agents;
  each = λ i t h g. elim (cases_eq i n) [
    | inl s ↦
        let l : length plan ≡ i = made.agents ∙ sym s in
        let front : take i (plan ++ path ∷ []) ≡ plan = take_at plan (path ∷ []) i l in
        let at : get_or (plan ++ path ∷ []) i [] ≡ path = get_or_push plan path [] i l in
        let r = read_task tasks n start goal a b t (ap (slice_get tasks) (sym s) ∙ g) in
        subst (λ z. IsEarliest passable z t.start t.goal horizon (get_or (plan ++ path ∷ []) i [])) (sym front) (subst (IsEarliest passable plan t.start t.goal horizon) (sym at) (subst (λ z. IsEarliest passable plan z t.goal horizon path) r.0 (subst (λ z. IsEarliest passable plan start z horizon path) r.1 here)))
    | inr ne ↦
        let l : i < length plan = (let m = made.agents in omega arith) in
        let front : take i (plan ++ path ∷ []) ≡ take i plan = take-append-le i plan (path ∷ []) (omega arith) in
        let at : get_or (plan ++ path ∷ []) i [] ≡ get_or plan i [] = get_or_append_left plan (path ∷ []) [] i l in
        subst (λ z. IsEarliest passable z t.start t.goal horizon (get_or (plan ++ path ∷ []) i [])) (sym front) (subst (IsEarliest passable (take i plan) t.start t.goal horizon) (sym at) (made.each i t (omega arith) g))
  ];
})

-- the agent that has no way is stuck
pub stuck_at : (passable : Place → Bool) (tasks : List Task) (horizon n : ℕ) (plan : Plan) (start goal : Cell) → n < length tasks → IsPrioritisedPlan passable tasks horizon n plan → option_map (λ (t : Task). t.start) (slice_get tasks n) ≡ Some start → option_map (λ (t : Task). t.goal) (slice_get tasks n) ≡ Some goal → IsInfeasible passable plan start goal horizon → HasNoPathFor passable tasks horizon n
stuck_at passable tasks horizon n plan start goal l made a b none =
    let t = task_of tasks n l in
    let r = read_task tasks n start goal a b t.0 t.1 in
    record {
      task = t.0;
      here = t.1;
      plan = plan;
      before = made;
      stuck = subst (λ z. IsInfeasible passable plan z t.0.goal horizon) r.0 (subst (λ z. IsInfeasible passable plan start z horizon) r.1 none);
    }

-- the agent that is same_agent
agent_of : PlanStop → ℕ
agent_of OutOfMemory = 0
agent_of (NoPath agent) = agent

pub same_agent : (P : ℕ → Type 0) (a b : ℕ) → NoPath a ≡ NoPath b → P a → P b
unfolding agent_of
same_agent P a b e h = subst P (ap agent_of e) h
