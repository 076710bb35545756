-- The program of a plan within the limits is well formed.
use Rattle.fleet_adg.proofs.Words.{◌≡◌, ◌≢◌, ℕ, suc, ◌+◌, ◌-◌, ◌<◌, ◌≤◌, min, List, [], ◌∷◌, map, length, get_or, All, sum_by, inl, inr, refl, sym, ap, ◌∙◌, subst, arith, option_map_or, cases_lt, length-map, All-head, All-tail, All-weaker, sum_by-cons, Cell, Await, AgentProgram, Deps, MAX_HORIZON, MAX_AWAIT, MAX_MOVES_IN_ALL, origin, awaits_of, total_moves, IsCell, AreAwaits, IsWellFormed, indices, Version, One, Two, most_count, Plan, cell_of, steps, IsPath, IsWithinLimits, changes, moves_by, entry_awaits, action_in, agent_program, compiled, moves_in_all}
use Rattle.fleet_model.proofs.OnePass.{no_awaits}
use Rattle.fleet_plan.specs.Plan.{cell_at}
use Rattle.fleet_adg.proofs.Moves.{changes_in-end, moves_by-yes, moves_by-le, moves_by-mono}
use Rattle.fleet_adg.proofs.Entry.{IsAwaitOf, entry-sound, entry-rising}
use Rattle.fleet_adg.proofs.Programs.{length-compiled, no_agent-compiled, start_of-compiled, goal_of-compiled, moves-compiled, no_moves-compiled, awaits_cases}

steps-le : (plan : Plan) (m : ℕ) → All (λ path. length path ≤ m + 1) plan → steps plan ≤ m
unfolding steps
steps-le [] m h = omega arith
steps-le (path ∷ plan) m h =
    omega (arith, All-head (λ (path : List Cell). length path ≤ m + 1) path plan h, steps-le plan m (All-tail (λ (path : List Cell). length path ≤ m + 1) path plan h))

pub steps_few : (plan : Plan) → IsWithinLimits plan → steps plan ≤ MAX_HORIZON
steps_few plan limits = steps-le plan MAX_HORIZON (All-weaker IsPath (λ (path : List Cell). length path ≤ MAX_HORIZON + 1) (λ path h. h.few_cells) plan limits.paths)

sum_by-map : {X Y : Type 0} (f : Y → ℕ) (g : X → Y) (xs : List X) → sum_by f (map g xs) ≡ sum_by (λ x. f (g x)) xs
sum_by-map f g [] = refl
sum_by-map f g (x ∷ xs) = sum_by-cons f (g x) (map g xs) ∙ ap (λ s. f (g x) + s) (sum_by-map f g xs) ∙ sym (sum_by-cons (λ x. f (g x)) x xs)

pub total_moves-compiled : (plan : Plan) (deps : Deps) → total_moves (compiled plan deps) ≡ moves_in_all plan
unfolding compiled agent_program moves_in_all moves_by
total_moves-compiled plan deps =
    let f = λ (a : AgentProgram). length a.actions in
    let each : (i : ℕ) → f (agent_program plan deps i) ≡ moves_by plan i (steps plan) = λ i. length-map (changes plan i (steps plan)) (action_in plan deps i) in
    sum_by-map f (agent_program plan deps) (indices (length plan)) ∙ ap (λ h. sum_by h (indices (length plan))) (λ k i. each i k)

-- what is awaited is a move that is made
pub count-le : (plan : Plan) (i x : ℕ) (w : Await) → IsAwaitOf plan i x w → w.count ≤ moves_by plan w.agent (steps plan)
count-le plan i x w h =
    let y = h.step.0 in
    omega (arith, h.step.4, moves_by-yes plan w.agent y h.step.2, moves_by-mono plan w.agent (suc y) (steps plan) (changes_in-end plan w.agent y h.step.2))

are_awaits : (plan : Plan) (deps : Deps) (i x : ℕ) → steps plan ≤ MAX_HORIZON → AreAwaits (length plan) i (entry_awaits plan deps i x)
are_awaits plan deps i x few =
    let ws = entry_awaits plan deps i x in
    let sound = entry-sound plan deps i x in
    record {
      rising = entry-rising plan deps i x;
      agents = All-weaker (IsAwaitOf plan i x) (λ w. w.agent < length plan) (λ w h. h.agent) ws sound;
      others = All-weaker (IsAwaitOf plan i x) (λ w. w.agent ≢ i) (λ w h. h.other) ws sound;
      counts = All-weaker (IsAwaitOf plan i x) (λ w. 1 ≤ w.count) (λ w h. omega (arith, h.step.4)) ws sound;
      few = All-weaker (IsAwaitOf plan i x) (λ w. w.count ≤ MAX_AWAIT) (λ w h. omega (arith, count-le plan i x w h, moves_by-le plan w.agent (steps plan))) ws sound;
    }

within_version : (v : Version) (n : ℕ) → n ≤ MAX_HORIZON → n ≤ most_count v
within_version One n h = omega (arith, h)
within_version Two n h = omega (arith, h)

-- both versions have bytes for the counts that are awaited in a step
pub counts_fit : (v : Version) (plan : Plan) (deps : Deps) (i x : ℕ) → x < MAX_HORIZON → All (λ w. w.count ≤ most_count v) (entry_awaits plan deps i x)
counts_fit v plan deps i x few =
    All-weaker (IsAwaitOf plan i x) (λ w. w.count ≤ most_count v)
    (λ w h. within_version v w.count (omega (arith, few, h.step.1, h.step.4, moves_by-le plan w.agent h.step.0))) (entry_awaits plan deps i x) (entry-sound plan deps i x)

origin_is_cell : IsCell origin
origin_is_cell = record { x = omega arith; y = omega arith }

-- every cell of a plan within the limits fits
pub cell_of-is_cell : (plan : Plan) (i t : ℕ) → IsWithinLimits plan → i < length plan → IsCell (cell_of plan i t)
unfolding cell_of cell_at
cell_of-is_cell plan i t limits h =
    let path = get_or plan i [] in
    let p : IsPath path = limits.paths i [] h in
    p.cells (min t (length path - 1)) origin (omega (arith, p.some_cells))

pub compiled-well_formed : (plan : Plan) (deps : Deps) → IsWithinLimits plan → moves_in_all plan ≤ MAX_MOVES_IN_ALL → IsWellFormed (compiled plan deps)
compiled-well_formed plan deps limits total =
    let long = length-compiled plan deps in
    let few = steps_few plan limits in
    record {
      some_agents = omega (arith, long, limits.fleet.some_agents);
      few_agents = omega (arith, long, limits.fleet.few_agents);
      starts = λ i. elim (cases_lt i (length plan)) [
        | inl l ↦ subst IsCell (sym (start_of-compiled plan deps i l)) (cell_of-is_cell plan i 0 limits l)
        | inr l ↦ subst (λ o. IsCell (option_map_or (λ (a : AgentProgram). a.start) o origin)) (sym (no_agent-compiled plan deps i l)) origin_is_cell
      ];
      goals = λ i. elim (cases_lt i (length plan)) [
        | inl l ↦ subst IsCell (sym (goal_of-compiled plan deps i l)) (cell_of-is_cell plan i (steps plan) limits l)
        | inr l ↦ subst (λ o. IsCell (option_map_or (λ (a : AgentProgram). a.goal) o origin)) (sym (no_agent-compiled plan deps i l)) origin_is_cell
      ];
      moves_each = λ i. elim (cases_lt i (length plan)) [
        | inl l ↦ omega (arith, moves-compiled plan deps i l, moves_by-le plan i (steps plan))
        | inr l ↦ omega (arith, no_moves-compiled plan deps i l)
      ];
      moves_in_all = omega (arith, total_moves-compiled plan deps);
      awaits = λ i n. subst (λ m. AreAwaits m i (awaits_of (compiled plan deps) i n)) (sym long) (elim (awaits_cases plan deps i n) [
        | inl e ↦ subst (AreAwaits (length plan) i) (sym e) (no_awaits (length plan) i)
        | inr w ↦ subst (AreAwaits (length plan) i) (sym w.1.awaits) (are_awaits plan deps i w.0 few)
      ]);
    }
