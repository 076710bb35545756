-- The tasks of an accepted program.
use Rattle.fleet_adg.proofs.Words.{◌≡◌, ◌≢◌, ℕ, ◌+◌, ◌<◌, List, [], ◌∷◌, ◌++◌, length, map, get_or, sym, ap, subst, ◌∙◌, arith, All, IsTrue, ext_get_or, get_or-map-range_with_len, length-map-range_with_len, map-range_with_len_more, slice_get-get_or, Cell, Place, Task, place_of, Program, start_of, goal_of, moves, IsWellFormed, indices, HasTasks, IsRight, Ground, is_passable, task_of, tasks_of}
use Rattle.fleet_model.specs.declared.standing.Standing.{Standing}
use Rattle.fleet_model.specs.Run.{motion, IsSafe}
use Rattle.fleet_model.proofs.Tick.{standing_at_opening}
use Rattle.fleet_scen.specs.Instance.{IsInstance}
use Rattle.fleet_scen.specs.ScenText.{HasPassableEnds}

pub task_from_parts : (s t : Task) → s.start ≡ t.start → s.goal ≡ t.goal → s ≡ t
task_from_parts s t start goal = λ i. record { start = start i; goal = goal i }

module _ (tasks : List Task) (p : Program) (has : HasTasks tasks p) where
  at : (i : ℕ) (d : Task) → i < length tasks → (start_of p i ≡ (get_or tasks i d).start) × (goal_of p i ≡ (get_or tasks i d).goal)
  at i d h = has.ends i (get_or tasks i d) (slice_get-get_or tasks i d h)

  pub tasks_are : tasks ≡ tasks_of p
  tasks_are =
      let nobody : Task = record { start = record { x = 0; y = 0 }; goal = record { x = 0; y = 0 } } in
      let agents = has.agents in
      ext_get_or nobody tasks (tasks_of p) (sym agents ∙ sym (length-map-range_with_len (task_of p) 0 (length p)))
      (λ i h. (
      let inside : i < length p = omega (arith, agents, h) in
      let here = at i nobody h in
      task_from_parts (get_or tasks i nobody) (task_of p i) (sym here.0) (sym here.1) ∙ sym (get_or-map-range_with_len (task_of p) 0 (length p) i i nobody inside (omega arith))))

module _ (g : Ground) (tasks : List Task) (p : Program) (right : IsRight (is_passable g) tasks p) where
  abbrev has : HasTasks tasks p
  has = right.for_tasks

  pub ends_passable : All (HasPassableEnds g) tasks
  ends_passable i d h =
      let here = at tasks p has i d h in
      let inside : i < length p = (let agents = has.agents in omega (arith, agents, h)) in
      record {
        start = subst (λ (c : Cell). IsTrue (is_passable g (place_of c))) here.0 (right.on_ground i 0 inside (omega arith));
        goal = subst (λ (c : Cell). IsTrue (is_passable g (place_of c))) here.1 (subst (λ (q : Place). IsTrue (is_passable g q)) (right.arrives i inside) (right.on_ground i (moves p i) inside (omega arith)));
      }

  module _ (formed : IsWellFormed p) (safe : IsSafe (is_passable g) p []) (f : ℕ) (arrive : (i : ℕ) → i < length p → motion p [] f i ≡ place_of (goal_of p i)) where
    pub instance : IsInstance tasks
    instance =
        let agents = has.agents in
        let some = formed.some_agents in
        let few = formed.few_agents in
        record {
          some = omega (arith, agents, some);
          few = omega (arith, agents, few);
          apart = record {
            starts = λ i j d less h same.
                (let a : i < length p = omega (arith, agents, h, less) in
                let b : j < length p = omega (arith, agents, h) in
                let ne : i ≢ j = (λ e. omega (arith, less, e)) in
                let first = at tasks p has i d (omega (arith, less, h)) in
                let second = at tasks p has j d h in
                let cells : start_of p i ≡ start_of p j = first.0 ∙ (same ∙ sym second.0) in
                let there = ap (λ (x : Standing). x.place) (standing_at_opening p i) ∙ (ap place_of cells ∙ sym (ap (λ (x : Standing). x.place) (standing_at_opening p j))) in
                safe.free.vertex 0 i j a b (record { apart = ne; same = there }));
            goals = λ i j d less h same.
                (let a : i < length p = omega (arith, agents, h, less) in
                let b : j < length p = omega (arith, agents, h) in
                let ne : i ≢ j = (λ e. omega (arith, less, e)) in
                let first = at tasks p has i d (omega (arith, less, h)) in
                let second = at tasks p has j d h in
                let cells : goal_of p i ≡ goal_of p j = first.1 ∙ (same ∙ sym second.1) in
                safe.free.vertex f i j a b (record { apart = ne; same = arrive i a ∙ (ap place_of cells ∙ sym (arrive j b)) }));
          };
        }

-- one task more
pub task_more : (f : ℕ → Task) (i : ℕ) (tasks new : List Task) (t : Task) → tasks ≡ map f (indices i) → new ≡ tasks ++ t ∷ [] → t ≡ f i → new ≡ map f (indices (i + 1))
task_more f i tasks new t is made here = cc (is, made, here, map-range_with_len_more f 0 i i (omega arith))
