-- Paths that are still the earliest if one more is reserved, and they fit it.
use Rattle.fleet_search.proofs.Words.{cases_lt, inl, inr, ◌≡◌, ℕ, zero, suc, ◌+◌, ◌<◌, ◌≤◌, Bool, List, [], ◌∷◌, ◌++◌, length, map, take, drop, get_or, remove, Some, refl, sym, ap, ◌∙◌, subst, arith, slice_get, option_map, slice_get-map, take-take, get_or-take, length-take-le, Cell, Place, Task, Plan, cell_of, arrival, Fits, Follow, IsFeasiblePath, IsEarliest, IsInfeasible, IsPrioritisedPlan, HasNoPathFor, no_task, tasks_by, to_front}
use Rattle.fleet_search.proofs.Steps.{each_step, from_each_step}
use Rattle.fleet_search.proofs.InTurnLaws.{task_of, in_turn-more, stuck_at}

-- ---- one path fewer

follow-fewer : (first : List Cell) (reserved : Plan) (t : ℕ) (c : Cell) (js : List ℕ) (d : Cell) → Follow reserved t c js d → Follow (first ∷ reserved) t c (map suc js) d
unfolding cell_of
follow-fewer first reserved t c [] d h = h
follow-fewer first reserved t c (j ∷ js) d h = (omega (arith, h.0), h.1, h.2, follow-fewer first reserved t (cell_of reserved j (t + 1)) js d h.3)

fits-fewer : (first : List Cell) (reserved : Plan) (path : List Cell) → Fits (first ∷ reserved) path → Fits reserved path
unfolding cell_of
fits-fewer first reserved path fits =
    let each = each_step (first ∷ reserved) path fits in
    from_each_step reserved path (record {
      first = λ j h. each.first (suc j) (omega arith);
      steps = λ t. record {
        vertex = λ j h. (each.steps t).vertex (suc j) (omega arith);
        ring = λ ne js h. (each.steps t).ring ne (map suc js) (follow-fewer first reserved t _ js _ h);
      };
    })

way-fewer : (passable : Place → Bool) (first : List Cell) (reserved : Plan) (start goal : Cell) (path : List Cell) → IsFeasiblePath passable (first ∷ reserved) start goal path → IsFeasiblePath passable reserved start goal path
way-fewer passable first reserved start goal path w = record {
  some_cells = w.some_cells;
  starts = w.starts;
  ends = w.ends;
  on_ground = w.on_ground;
  successive = w.successive;
  fits = fits-fewer first reserved path w.fits;
}

-- what is the earliest among more ways is so among fewer
earliest-more : (passable : Place → Bool) (first : List Cell) (reserved : Plan) (start goal : Cell) (horizon : ℕ) (path : List Cell) → IsEarliest passable reserved start goal horizon path → Fits (first ∷ reserved) path → IsEarliest passable (first ∷ reserved) start goal horizon path
earliest-more passable first reserved start goal horizon path e fits = record {
  way = record {
    some_cells = e.way.some_cells;
    starts = e.way.starts;
    ends = e.way.ends;
    on_ground = e.way.on_ground;
    successive = e.way.successive;
    fits = fits;
  };
  in_time = e.in_time;
  none_sooner = λ other w. e.none_sooner other (way-fewer passable first reserved start goal other w);
}

-- what was the earliest among other ways is so among these, if it fits and none of them arrives sooner
pub earliest-again : (passable : Place → Bool) (others reserved : Plan) (start goal : Cell) (horizon sooner : ℕ) (path : List Cell) → IsEarliest passable others start goal horizon path → Fits reserved path → arrival path ≤ sooner + 1 → (1 ≤ arrival path → IsInfeasible passable reserved start goal sooner) → IsEarliest passable reserved start goal horizon path
earliest-again passable others reserved start goal horizon sooner path e fits late none = record {
  way = record {
    some_cells = e.way.some_cells;
    starts = e.way.starts;
    ends = e.way.ends;
    on_ground = e.way.on_ground;
    successive = e.way.successive;
    fits = fits;
  };
  in_time = e.in_time;
  none_sooner = λ other w. elim (cases_lt (arrival other) (arrival path)) [
    | inl l ↦ absurd (none (omega arith) other w (omega arith))
    | inr l ↦ l
  ];
}

-- what is the earliest by a horizon is so by a later one
pub earliest-later : (passable : Place → Bool) (reserved : Plan) (start goal : Cell) (sooner horizon : ℕ) (path : List Cell) → sooner ≤ horizon → IsEarliest passable reserved start goal sooner path → IsEarliest passable reserved start goal horizon path
earliest-later passable reserved start goal sooner horizon path h e = record { way = e.way; in_time = (let t = e.in_time in omega arith); none_sooner = e.none_sooner }

-- ---- paths that are kept

pub later_task : (tasks : List Task) (j : ℕ) → slice_get (drop 1 tasks) j ≡ slice_get tasks (suc j)
later_task [] j = refl
later_task (t ∷ tasks) j = refl

pub kept_made : (passable : Place → Bool) (tasks : List Task) (horizon : ℕ) (first : List Cell) (paths : Plan) (n : ℕ) → IsPrioritisedPlan passable tasks horizon 1 (first ∷ []) → IsPrioritisedPlan passable (drop 1 tasks) horizon (length paths) paths → n ≤ length paths → ((i : ℕ) → i < n → Fits (first ∷ take i paths) (get_or paths i [])) → IsPrioritisedPlan passable tasks horizon (n + 1) (first ∷ take n paths)
kept_made passable tasks horizon first paths n one made few fits = record {
  agents = (let e : length (take n paths) ≡ n = length-take-le n paths few in omega arith);
  each = each;
}
  where
    each : (i : ℕ) (task : Task) → i < n + 1 → slice_get tasks i ≡ Some task → IsEarliest passable (take i (first ∷ take n paths)) task.start task.goal horizon (get_or (first ∷ take n paths) i [])
    each zero task h t = one.each 0 task (omega arith) t
    each (suc j) task h t =
        let l : j < n = omega arith in
        let front : take j (take n paths) ≡ take j paths = take-take j n paths (omega arith) in
        let at : get_or (take n paths) j [] ≡ get_or paths j [] = get_or-take n paths j [] l in
        let old : IsEarliest passable (take j paths) task.start task.goal horizon (get_or paths j []) = made.each j task (omega arith) (later_task tasks j ∙ t) in
        let new : IsEarliest passable (first ∷ take j paths) task.start task.goal horizon (get_or paths j []) = earliest-more passable first (take j paths) task.start task.goal horizon (get_or paths j []) old (fits j l) in
        subst (λ z. IsEarliest passable (first ∷ z) task.start task.goal horizon (get_or (take n paths) j [])) (sym front)
        (subst (IsEarliest passable (first ∷ take j paths) task.start task.goal horizon) (sym at) new)

-- ---- the next order

front_stays : (order : List ℕ) (place i : ℕ) → i < place → place < length order → slice_get (remove order place) i ≡ slice_get order i
front_stays [] place i h l = absurd (omega arith)
front_stays (a ∷ order) zero i h l = absurd (omega arith)
front_stays (a ∷ order) (suc place) zero h l = refl
front_stays (a ∷ order) (suc place) (suc i) h l = front_stays order place i (omega arith) (omega arith)

pub made_after_raise : (passable : Place → Bool) (tasks : List Task) (horizon : ℕ) (order : List ℕ) (paths : Plan) → length paths < length order → IsPrioritisedPlan passable (tasks_by order tasks) horizon (length paths) paths → IsPrioritisedPlan passable (drop 1 (tasks_by (to_front order (length paths)) tasks)) horizon (length paths) paths
made_after_raise passable tasks horizon order paths few made = record {
  agents = refl;
  each = λ i task h t. made.each i task h (
      slice_get-map (λ a. get_or tasks a no_task) order i
      ∙ ap (option_map (λ a. get_or tasks a no_task)) (sym (front_stays order (length paths) i h few))
      ∙ sym (slice_get-map (λ a. get_or tasks a no_task) (remove order (length paths)) i) ∙ t);
}

-- ---- one path more

pub none_made : (passable : Place → Bool) (tasks : List Task) (horizon : ℕ) → IsPrioritisedPlan passable tasks horizon 0 []
none_made passable tasks horizon = record { agents = refl; each = λ i task h t. absurd (omega arith) }

pub in_turn-added : (passable : Place → Bool) (tasks : List Task) (horizon n : ℕ) (plan all : Plan) (path : List Cell) → n < length tasks → IsPrioritisedPlan passable tasks horizon n plan → ((task : Task) → slice_get tasks n ≡ Some task → IsEarliest passable plan task.start task.goal horizon path) → all ≡ plan ++ path ∷ [] → IsPrioritisedPlan passable tasks horizon (n + 1) all
in_turn-added passable tasks horizon n plan all path l made here e =
    let t = task_of tasks n l in
    in_turn-more passable tasks horizon n plan all path t.0.start t.0.goal made (ap (option_map (λ (z : Task). z.start)) t.1) (ap (option_map (λ (z : Task). z.goal)) t.1) (here t.0 t.1) e

pub stuck_here : (passable : Place → Bool) (tasks : List Task) (horizon n : ℕ) (plan : Plan) → n < length tasks → IsPrioritisedPlan passable tasks horizon n plan → ((task : Task) → slice_get tasks n ≡ Some task → IsInfeasible passable plan task.start task.goal horizon) → HasNoPathFor passable tasks horizon n
stuck_here passable tasks horizon n plan l made none =
    let t = task_of tasks n l in
    stuck_at passable tasks horizon n plan t.0.start t.0.goal l made (ap (option_map (λ (z : Task). z.start)) t.1) (ap (option_map (λ (z : Task). z.goal)) t.1) (none t.0 t.1)
