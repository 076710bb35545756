-- Agents that are alone on the map, and the sum of their distances.
use Rattle.fleet_search.proofs.Words.{◌≡◌, ◌≢◌, ℕ, ◌+◌, ◌<◌, Bool, List, [], ◌∷◌, ◌++◌, length, get_or, Some, inl, inr, refl, sym, ap, ◌∙◌, subst, arith, slice_get, option_map, Ground, is_passable, IsCheckedFor, cases_eq, slice_get_within, length_push, get_or_push, get_or_append_left, sum_by_push, Cell, Place, Task, Plan, cell_at, cell_of, last_cell, IsConflictFree, IsPath, Fits, Follow, IsFeasiblePath, IsEarliest, IsInfeasible, MAX_HORIZON, IsDistance, IsSumOfDistances}
use Rattle.fleet_search.proofs.InTurnLaws.{task_of, read_task}
use Rattle.fleet_search.proofs.Steps.{from_each_step}

-- ---- alone

follows-nobody : (t : ℕ) (c d : Cell) (js : List ℕ) → d ≢ c → Follow [] t c js d → ⊥
follows-nobody t c d [] ne h = ne (sym h)
follows-nobody t c d (j ∷ js) ne h = let none = h.0 in absurd (omega arith)

-- who is alone fits
pub alone_fits : (path : List Cell) → Fits [] path
alone_fits path = from_each_step [] path (record {
  first = λ j h. absurd (omega arith);
  steps = λ t. record {
    vertex = λ j h. absurd (omega arith);
    ring = λ ne js h. follows-nobody t (cell_at path (t + 1)) (cell_at path t) js ne h;
  };
})

-- the path that an agent has in a plan leads it to its goal when it is alone, too
pub alone_too : (passable : Place → Bool) (tasks : List Task) (plan : Plan) (i : ℕ) (task : Task) → IsConflictFree passable tasks plan → slice_get tasks i ≡ Some task → IsPath (get_or plan i []) → IsFeasiblePath passable [] task.start task.goal (get_or plan i [])
unfolding cell_of last_cell
alone_too passable tasks plan i task free at limits =
    let here : i < length plan = (let l = slice_get_within tasks i task at in let e = free.agents in omega arith) in
    let ends = free.ends i task at in
    record {
      some_cells = limits.some_cells;
      starts = ends.0;
      ends = ends.1;
      on_ground = λ t. free.on_ground i t here;
      successive = λ t. free.successive i t here;
      fits = alone_fits (get_or plan i []);
    }

pub distance_is : (passable : Place → Bool) (reserved : Plan) (start goal : Cell) (horizon n : ℕ) (path : List Cell) → reserved ≡ [] → horizon ≡ MAX_HORIZON → IsEarliest passable reserved start goal horizon path → n + 1 ≡ length path → IsDistance passable start goal n
distance_is passable reserved start goal horizon n path none far e long = record {
  path = path;
  earliest = subst (λ z. IsEarliest passable [] start goal z path) far (subst (λ z. IsEarliest passable z start goal horizon path) none e);
  time = omega (arith, long);
}

-- ---- the sum

pub bound_none : (passable : Place → Bool) (tasks : List Task) → IsSumOfDistances passable tasks 0 0
bound_none passable tasks = record {
  distances = [];
  all = refl;
  each = λ i task l e. absurd (omega arith);
  sum = refl;
}

pub bound_more : (passable : Place → Bool) (tasks : List Task) (i m n : ℕ) (task : Task) → slice_get tasks i ≡ Some task → IsSumOfDistances passable tasks i m → IsDistance passable task.start task.goal n → IsSumOfDistances passable tasks (i + 1) (m + n)
bound_more passable tasks i m n task at so one = record {
  distances = so.distances ++ n ∷ [];
  all = length_push so.distances n ∙ ap (λ z. z + 1) so.all;
  each = λ k other l e. elim (cases_eq k i) [
    | inl same ↦
        let is : task ≡ other = (let a = at in let b = subst (λ z. slice_get tasks z ≡ Some other) same e in cc) in
        let last : get_or (so.distances ++ n ∷ []) k 0 ≡ n = get_or_push so.distances n 0 k (so.all ∙ sym same) in
        subst (λ z. IsDistance passable other.start other.goal z) (sym last) (subst (λ (t : Task). IsDistance passable t.start t.goal n) is one)
    | inr ne ↦
        let before : k < i = omega arith in
        let there : k < length so.distances = (let s = so.all in omega arith) in
        subst (IsDistance passable other.start other.goal) (sym (get_or_append_left so.distances (n ∷ []) 0 k there)) (so.each k other before e)
  ];
  sum = ap (λ z. z + n) so.sum ∙ sym (sum_by_push (λ x. x) so.distances n);
}

pub bound_step : (g there : Ground) (tasks read : List Task) (n m d : ℕ) (start goal : Cell) → there ≡ g → read ≡ tasks → n < length tasks → option_map (λ (t : Task). t.start) (slice_get read n) ≡ Some start → option_map (λ (t : Task). t.goal) (slice_get read n) ≡ Some goal → IsSumOfDistances (is_passable g) tasks n m → IsDistance (is_passable there) start goal d → IsSumOfDistances (is_passable g) tasks (n + 1) (m + d)
bound_step g there tasks read n m d start goal same is within a b so one =
    let t = task_of tasks n within in
    let from = subst (λ (z : List Task). option_map (λ (t : Task). t.start) (slice_get z n) ≡ Some start) is a in
    let to = subst (λ (z : List Task). option_map (λ (t : Task). t.goal) (slice_get z n) ≡ Some goal) is b in
    let r = read_task tasks n start goal from to t.0 t.1 in
    let here = subst (λ (z : Ground). IsDistance (is_passable z) start goal d) same one in
    bound_more (is_passable g) tasks n m d t.0 t.1 so (subst (λ z. IsDistance (is_passable g) z t.0.goal d) r.0 (subst (λ z. IsDistance (is_passable g) start z d) r.1 here))

-- the goal of an agent of a plan is not cut off
pub not_cut_off : (g there : Ground) (tasks read : List Task) (plan : Plan) (n : ℕ) (start goal : Cell) → there ≡ g → read ≡ tasks → n < length tasks → option_map (λ (t : Task). t.start) (slice_get read n) ≡ Some start → option_map (λ (t : Task). t.goal) (slice_get read n) ≡ Some goal → IsCheckedFor g tasks plan → IsInfeasible (is_passable there) [] start goal MAX_HORIZON → ⊥
not_cut_off g there tasks read plan n start goal same is within a b checked none =
    let t = task_of tasks n within in
    let from = subst (λ (z : List Task). option_map (λ (t : Task). t.start) (slice_get z n) ≡ Some start) is a in
    let to = subst (λ (z : List Task). option_map (λ (t : Task). t.goal) (slice_get z n) ≡ Some goal) is b in
    let r = read_task tasks n start goal from to t.0 t.1 in
    let inside : n < length plan = (let e = checked.free.agents in omega arith) in
    let limits = checked.limits.paths n [] inside in
    let alone = alone_too (is_passable g) tasks plan n t.0 checked.free t.1 limits in
    let way = subst (λ (z : Ground). IsFeasiblePath (is_passable z) [] start goal (get_or plan n [])) (sym same)
    (subst (λ z. IsFeasiblePath (is_passable g) [] z goal (get_or plan n [])) (sym r.0) (subst (λ z. IsFeasiblePath (is_passable g) [] t.0.start z (get_or plan n [])) (sym r.1) alone)) in
    none (get_or plan n []) way (let few = limits.few_cells in omega arith)
