-- The plan that a run of an accepted program is.
use Rattle.fleet_adg.proofs.Words.{◌≡◌, ◌∙◌, ap, sym, subst, refl, ℕ, suc, ◌+◌, ◌-◌, ◌<◌, ◌≤◌, min, ◌⊎◌, inl, inr, arith, add-one, IsTrue, List, [], ◌∷◌, length, get_or, slice_get, Some, All, ℤ, pos, negsuc, cases_lt, false≢true, All-weaker, All-head, All-tail, All-map, get_or-map-range_with_len, length-map-range_with_len, get_or_past, slice_get_within, Deps, Cell, Place, Step, Go, Dwell, Dir, MAX_HORIZON, Task, place_of, moved, stepped, Program, IsCell, IsWellFormed, origin, actions_of, path, Holds, run, indices, IsAccepted, place_of-injective, Ground, is_passable, IsGround, Plan, motion_of, IsConflictFree, IsPath, cell_of, last_cell, steps, natural, cell_at, compiled, stay, slice_get-get_or}
use Rattle.std.proofs.lemmas.List.FromFn.{get_or-range_with_len, length-range_with_len}
use Rattle.fleet_model.specs.declared.standing.Standing.{Standing}
use Rattle.fleet_model.specs.Machine.{held_ticks, IsFinish}
use Rattle.fleet_model.specs.Conflict.{HasVertexConflict, HasSwappingConflict, HasCycleConflict, after_in}
use Rattle.fleet_model.specs.Run.{motion, IsFree}
use Rattle.fleet_model.proofs.Tick.{path_more, standing_at_opening}
use Rattle.fleet_plan.specs.Plan.{Path, AreBeside}
use Rattle.fleet_plan.specs.Checked.{IsCheckedFor}
unfoldable use Rattle.fleet_plan.specs.Plan.{cell_at as cell_on}
use Rattle.fleet_verify.proofs.FreeRun.{runs_free, runs_on_ground}
use Rattle.fleet_verify.proofs.RunCounts.{counts, run_counts, run_place, finish_stays}
use Rattle.fleet_adg.proofs.RestMade.{on_way, cells_are}
use Rattle.fleet_adg.proofs.AsWritten.{finish_within}
use Rattle.fleet_plan.specs.Apart.{IsApart}
use Rattle.fleet_adg.specs.AsWritten.{path_of_run, plan_of_run}

-- ---- cells of a map

-- a passable place is that of a cell
cell_under : (g : Ground) (q : Place) → IsTrue (is_passable g q) → place_of (record { x = natural q.x; y = natural q.y }) ≡ q
cell_under g q h = go q.x q.y refl refl
  where
    go : (x y : ℤ) → q.x ≡ x → q.y ≡ y → place_of (record { x = natural q.x; y = natural q.y }) ≡ q
    go (pos x) (pos y) ex ey =
        let a : pos (natural q.x) ≡ q.x = ap (λ z. pos (natural z)) ex ∙ sym ex in
        let b : pos (natural q.y) ≡ q.y = ap (λ z. pos (natural z)) ey ∙ sym ey in
        λ k. record { x = a k; y = b k }
    go (pos x) (negsuc y) ex ey = absurd (false≢true (sym (λ k. is_passable g (record { x = ex k; y = ey k })) ∙ h))
    go (negsuc x) y ex ey = absurd (false≢true (sym (λ k. is_passable g (record { x = ex k; y = ey k })) ∙ h))

-- ---- steps of a run

-- a step leads to a neighbouring place, or none
stepped_beside : (q : Place) (s : Step) → (stepped q s ≡ q) ⊎ ((d : Dir) × (stepped q s ≡ moved q d))
stepped_beside q (Go d) = inr (d, refl)
stepped_beside q Dwell = inl refl

tick_beside : (p : Program) (holds : Holds) (x i : ℕ) → i < length p
    → (motion p holds (suc x) i ≡ motion p holds x i) ⊎ ((d : Dir) × (motion p holds (suc x) i ≡ moved (motion p holds x i) d))
tick_beside p holds x i agent =
    let here = run_place p holds x i agent in
    let there = run_place p holds (suc x) i agent in
    let n = counts p holds x i in
    elim ((run_counts p holds).step x i) [
      | inl e ↦ inl (there ∙ ap (path p i) e ∙ sym here)
      | inr e ↦
          let a = get_or (actions_of p i) n stay in
          let at = slice_get-get_or (actions_of p i) n stay ((run_counts p holds).left x i e.0) in
          let to : motion p holds (suc x) i ≡ stepped (motion p holds x i) a.step = there ∙ ap (path p i) e.1 ∙ path_more p i n a at ∙ ap (λ (q : Place). stepped q a.step) (sym here) in
          elim (stepped_beside (motion p holds x i) a.step) [
            | inl s ↦ inl (to ∙ s)
            | inr s ↦ inr (s.0, to ∙ s.1)
          ]
    ]

-- ---- the plan

pub plan_long : (p : Program) (holds : Holds) (f : ℕ) → length (plan_of_run p holds f) ≡ length p
plan_long p holds f = length-map-range_with_len (path_of_run p holds f) 0 (length p)

path_at : (p : Program) (holds : Holds) (f i : ℕ) → i < length p → get_or (plan_of_run p holds f) i [] ≡ path_of_run p holds f i
path_at p holds f i agent = get_or-map-range_with_len (path_of_run p holds f) 0 (length p) i i [] agent (omega arith)

path_long : (p : Program) (holds : Holds) (f i : ℕ) → length (path_of_run p holds f i) ≡ f + 1
path_long p holds f i = length-map-range_with_len (λ t. cell_at (run p holds t) i) 0 (f + 1)

at_path : Path → ℕ → Cell
at_path cells t = get_or cells (min t (length cells - 1)) origin

cell_of-is : (plan : Plan) (i t : ℕ) → cell_of plan i t ≡ at_path (get_or plan i []) t
unfolding cell_of cell_on at_path
cell_of-is plan i t = refl

-- who is no agent of the plan stands on the origin
pub nowhere : (plan : Plan) (i t : ℕ) → length plan ≤ i → cell_of plan i t ≡ origin
unfolding at_path
nowhere plan i t l = cell_of-is plan i t ∙ ap (λ cells. at_path cells t) (get_or_past plan i [] l)

last_cell-is : (plan : Plan) (i : ℕ) → last_cell plan i ≡ cell_of plan i (length (get_or plan i []) - 1)
unfolding last_cell
last_cell-is plan i = refl

on_path : (p : Program) (holds : Holds) (f i t : ℕ) → at_path (path_of_run p holds f i) t ≡ cell_at (run p holds (min t f)) i
unfolding at_path
on_path p holds f i t =
    let k : min t (length (path_of_run p holds f i) - 1) ≡ min t f = omega (arith, path_long p holds f i) in
    get_or-map-range_with_len (λ t. cell_at (run p holds t) i) 0 (f + 1) (min t (length (path_of_run p holds f i) - 1)) (min t f) origin (omega (arith, k)) (omega (arith, k))

pub cell_in : (p : Program) (holds : Holds) (f i t : ℕ) → i < length p → cell_of (plan_of_run p holds f) i t ≡ cell_at (run p holds (min t f)) i
cell_in p holds f i t agent = cell_of-is (plan_of_run p holds f) i t ∙ ap (λ cells. at_path cells t) (path_at p holds f i agent) ∙ on_path p holds f i t

-- ---- its motion is that of the run

module _ (g : Ground) (tasks : List Task) (p : Program) (ok : IsAccepted (is_passable g) tasks p) (holds : Holds) (f : ℕ) (fin : IsFinish p holds f) where
  abbrev plan : Plan
  plan = plan_of_run p holds f

  on_ground : (x i : ℕ) → i < length p → IsTrue (is_passable g (motion p holds x i))
  on_ground = runs_on_ground (is_passable g) p holds ok.right.on_ground

  pub same : (x i : ℕ) → i < length p → motion_of plan x i ≡ motion p holds x i
  same x i agent = ap place_of (cell_in p holds f i x agent) ∙ cell_under g (motion p holds (min x f) i) (on_ground (min x f) i agent) ∙ cut
    where
      cut : motion p holds (min x f) i ≡ motion p holds x i
      cut = elim (cases_lt x f) [
        | inl l ↦ ap (λ t. motion p holds t i) (omega (arith, l))
        | inr l ↦ finish_stays p holds f (min x f) i fin (omega (arith, l)) agent ∙ sym (finish_stays p holds f x i fin l agent)
      ]

  mine : (i : ℕ) → i < length plan → i < length p
  mine i h = omega (arith, h, plan_long p holds f)

  free_run : IsFree (length p) (motion p holds)
  free_run = runs_free p holds ok.orderly

  pub apart : IsApart plan
  apart x i j hi hj c =
      free_run.following x i j (mine i hi) (mine j hj) (record { apart = c.apart; same = sym (same (x + 1) i (mine i hi)) ∙ c.same ∙ same x j (mine j hj) })

  no_vertex : (x i j : ℕ) → i < length plan → j < length plan → HasVertexConflict (motion_of plan) x i j → ⊥
  no_vertex x i j hi hj c =
      free_run.vertex x i j (mine i hi) (mine j hj) (record { apart = c.apart; same = sym (same x i (mine i hi)) ∙ c.same ∙ same x j (mine j hj) })

  no_swapping : (x i j : ℕ) → i < length plan → j < length plan → HasSwappingConflict (motion_of plan) x i j → ⊥
  no_swapping x i j hi hj c = apart x i j hi hj (record { apart = c.apart; same = c.there })

  no_cycle : (x : ℕ) (ring : List ℕ) → All (λ i. i < length plan) ring → HasCycleConflict (motion_of plan) x ring → ⊥
  no_cycle x ring below c =
      free_run.cycle x ring (All-weaker (λ i. i < length plan) (λ i. i < length p) mine ring below) (record {
        three = c.three;
        distinct = c.distinct;
        next = λ k l. sym (same (x + 1) (get_or ring k 0) (in_ring k 0 l)) ∙ c.next k l ∙ same x (after_in ring k) (after_inside k l);
        moves = λ k l e. c.moves k l (same (x + 1) (get_or ring k 0) (in_ring k 0 l) ∙ e ∙ sym (same x (get_or ring k 0) (in_ring k 0 l)));
      })
    where
      in_ring : (k d : ℕ) → k < length ring → get_or ring k d < length p
      in_ring k d l = mine (get_or ring k d) (below k d l)

      after_inside : (k : ℕ) → k < length ring → after_in ring k < length p
      after_inside k l = elim (cases_lt (k + 1) (length ring)) [
        | inl m ↦ in_ring (k + 1) (get_or ring 0 0) m
        | inr m ↦ subst (λ i. i < length p) (sym (get_or_past ring (k + 1) (get_or ring 0 0) m)) (in_ring 0 0 (omega (arith, l)))
      ]

  beside : (x i : ℕ) → i < length p → AreBeside (cell_of plan i x) (cell_of plan i (x + 1))
  beside x i agent =
      let here = same x i agent in
      let there = ap (λ t. motion_of plan t i) (add-one x) ∙ same (suc x) i agent in
      elim (tick_beside p holds x i agent) [
        | inl e ↦ inl (place_of-injective (cell_of plan i x) (cell_of plan i (x + 1)) (here ∙ sym e ∙ sym there))
        | inr e ↦ inr (e.0, there ∙ e.1 ∙ ap (λ (q : Place). moved q e.0) (sym here))
      ]

  ends : (i : ℕ) (t : Task) → slice_get tasks i ≡ Some t → (cell_of plan i 0 ≡ t.start) × (last_cell plan i ≡ t.goal)
  ends i t e =
      let agent : i < length p = omega (arith, slice_get_within tasks i t e, ok.right.for_tasks.agents) in
      let own = ok.right.for_tasks.ends i t e in
      let last : f ≤ length (get_or plan i []) - 1 = omega (arith, ap (λ (cells : Path). length cells) (path_at p holds f i agent), path_long p holds f i) in (
        place_of-injective (cell_of plan i 0) t.start (same 0 i agent ∙ ap (λ (s : Standing). s.place) (standing_at_opening p i) ∙ ap place_of own.0),
        last_cell-is plan i ∙ place_of-injective (cell_of plan i (length (get_or plan i []) - 1)) t.goal
            (same (length (get_or plan i []) - 1) i agent ∙ finish_stays p holds f (length (get_or plan i []) - 1) i fin last agent ∙ ok.right.arrives i agent ∙ ap place_of own.1),
      )

  pub free : IsConflictFree (is_passable g) tasks plan
  free = record {
    agents = plan_long p holds f ∙ ok.right.for_tasks.agents;
    ends = ends;
    on_ground = λ i x h. subst (λ (q : Place). IsTrue (is_passable g q)) (sym (same x i (mine i h))) (on_ground x i (mine i h));
    successive = λ i x h. beside x i (mine i h);
    vertex = no_vertex;
    swapping = no_swapping;
    cycle = no_cycle;
  }

-- ---- its length

steps_same : (m : ℕ) (plan : Plan) → All (λ (cells : Path). length cells ≡ m + 1) plan → (steps plan ≤ m) × (1 ≤ length plan → steps plan ≡ m)
unfolding steps
steps_same m [] all = (omega arith, λ l. absurd (omega (arith, l)))
steps_same m (cells ∷ plan) all =
    let here : length cells ≡ m + 1 = All-head (λ (cells : Path). length cells ≡ m + 1) cells plan all in
    let rest = steps_same m plan (All-tail (λ (cells : Path). length cells ≡ m + 1) cells plan all) in
    (omega (arith, here, rest.0), λ l. omega (arith, here, rest.0))

pub plan_steps : (p : Program) (holds : Holds) (f : ℕ) → (steps (plan_of_run p holds f) ≤ f) × (1 ≤ length p → steps (plan_of_run p holds f) ≡ f)
plan_steps p holds f =
    let s = steps_same f (plan_of_run p holds f) (All-map (λ (cells : Path). length cells ≡ f + 1) (path_of_run p holds f) (indices (length p)) (λ k i l. path_long p holds f (get_or (indices (length p)) k i))) in
    (s.0, λ l. s.1 (omega (arith, l, plan_long p holds f)))

-- ---- within the limits

module _ (g : Ground) (tasks : List Task) (p : Program) (ok : IsAccepted (is_passable g) tasks p) (ground : IsGround g) (formed : IsWellFormed p) (holds : Holds) (f : ℕ) (fin : IsFinish p holds f) (short : f ≤ MAX_HORIZON) where
  path_is : (i : ℕ) → i < length p → IsPath (path_of_run p holds f i)
  path_is i agent = record {
    some_cells = omega (arith, path_long p holds f i);
    few_cells = omega (arith, path_long p holds f i, short);
    cells = All-map IsCell (λ t. cell_at (run p holds t) i) (indices (f + 1)) (λ k d l.
        let t = get_or (indices (f + 1)) k d in
        cells_are p (run p holds t) (on_way g tasks p (run p holds t) ground formed ok (record { holds = holds; ticks = t; same = refl })) i agent);
  }

  pub checked : IsCheckedFor g tasks (plan_of_run p holds f)
  checked = record {
    limits = record {
      fleet = record { some_agents = omega (arith, plan_long p holds f, formed.some_agents); few_agents = omega (arith, plan_long p holds f, formed.few_agents) };
      paths = All-map IsPath (path_of_run p holds f) (indices (length p)) (λ k d l.
          path_is (get_or (indices (length p)) k d) (let e = get_or-range_with_len 0 (length p) k d (omega (arith, length-range_with_len 0 (length p), l)) in omega (arith, e, length-range_with_len 0 (length p), l)));
    };
    free = free g tasks p ok holds f fin;
  }

-- ---- its program

pub again : (g : Ground) (tasks : List Task) (p : Program) → IsAccepted (is_passable g) tasks p → (holds : Holds) (f : ℕ) → IsFinish p holds f → (deps : Deps) (then : Holds) (e : ℕ)
    → IsFinish (compiled (plan_of_run p holds f) deps) then e → e ≤ f + held_ticks (compiled (plan_of_run p holds f) deps) then e
again g tasks p ok holds f fin deps then e last =
    omega (arith, finish_within (plan_of_run p holds f) deps (apart g tasks p ok holds f fin) (is_passable g) tasks (free g tasks p ok holds f fin) then e last, (plan_steps p holds f).0)
