-- What comes of planning in one order, step by step.
use Rattle.fleet_search.proofs.Words.{◌≡◌, ℕ, suc, ◌+◌, ◌<◌, true, false, List, [], ◌∷◌, ◌++◌, length, take, get_or, sym, ap, ◌∙◌, subst, arith, slice_get, slice_get-get_or, length-map, Task, is_passable, Plan, Fits, IsPrioritisedPlan, no_task, tasks_by, IsStuckInOrder, IsOrderOf, IsPathAdded, ArePathsKept, IsTurnOf, IsMadeAfterFirst, IsOldPath, Problem}
use Rattle.fleet_search.proofs.OrderLaws.{agents_below, task_in_order}
use Rattle.fleet_search.proofs.KeptPaths.{later_task, kept_made, none_made, in_turn-added, stuck_here}

module _ (problem : Problem) (order : List ℕ) (each : IsOrderOf problem order) where
  abbrev tasks : List Task
  tasks = problem.instance.now

  abbrev Made : ℕ → Plan → Type 0
  Made n plan = IsPrioritisedPlan (is_passable problem.grid.now) (tasks_by order tasks) problem.horizon n plan

  within : (place : ℕ) → place < length order → place < length (tasks_by order tasks)
  within place h = subst (λ z. place < z) (sym (length-map order (λ a. get_or tasks a no_task))) h

  same_task : (place : ℕ) → place < length order → slice_get tasks (get_or order place 0) ≡ slice_get (tasks_by order tasks) place
  same_task place h = sym (task_in_order tasks order place (get_or order place 0) (slice_get-get_or order place 0 h) (agents_below (length tasks) order each place 0 h))

  pub added_made : (place : ℕ) (old new : Plan) → place < length order → Made place old → IsPathAdded problem (get_or order place 0) problem.horizon old new true → Made (place + 1) new
  added_made place old new l made added =
      in_turn-added (is_passable problem.grid.now) (tasks_by order tasks) problem.horizon place old new added.0 (within place l) made (λ task t. added.2 task (same_task place l ∙ t)) added.1

  pub nothing_made : (old : Plan) → old ≡ [] → Made 0 old
  nothing_made old none = subst (Made 0) (sym none) (none_made (is_passable problem.grid.now) (tasks_by order tasks) problem.horizon)

  pub stuck_attempt : (place : ℕ) (old new : Plan) → place < length order → Made place old → IsPathAdded problem (get_or order place 0) problem.horizon old new false → IsStuckInOrder (is_passable problem.grid.now) tasks problem.horizon order (length new) × Made (length new) new
  stuck_attempt place old new l made added =
      let long : place ≡ length new = sym (ap length added.0 ∙ made.agents) in
      let stuck = stuck_here (is_passable problem.grid.now) (tasks_by order tasks) problem.horizon place old (within place l) made (λ task t. added.1 task (same_task place l ∙ t)) in (
        subst (IsStuckInOrder (is_passable problem.grid.now) tasks problem.horizon order) long stuck,
        subst (λ z. Made z new) long (subst (Made place) (sym added.0) made),
      )

  pub kept_attempt : (old new after kept : Plan) (n : ℕ) → IsTurnOf problem order kept → old ≡ [] → IsPathAdded problem (get_or order 0 0) problem.horizon old new true → ArePathsKept new after kept n → Made (n + 1) after
  kept_attempt old new after kept n turn none added are =
      let one : Made 1 new = added_made 0 old new (omega (arith, turn.fewer)) (nothing_made old none) added in
      let is : new ≡ added.0 ∷ [] = added.1 ∙ ap (λ z. z ++ added.0 ∷ []) none in
      let fits : (i : ℕ) → i < n → Fits (added.0 ∷ take i kept) (get_or kept i []) = λ i h. subst (λ z. Fits (z ++ take i kept) (get_or kept i [])) is (are.fit i h) in
      subst (Made (n + 1)) (sym (are.added ∙ ap (λ z. z ++ take n kept) is))
      (kept_made (is_passable problem.grid.now) (tasks_by order tasks) problem.horizon added.0 kept n (subst (Made 1) is one) turn.made are.bound fits)

  -- a kept path was the earliest of its agent
  pub old_path : (kept : Plan) (i : ℕ) → suc i < length order → IsMadeAfterFirst problem order kept → i < length kept → IsOldPath problem (get_or order (suc i) 0) (get_or kept i [])
  old_path kept i l made h = λ task t. (take i kept, made.each i task h (later_task (tasks_by order tasks) i ∙ sym (same_task (suc i) l) ∙ t))
