-- The first faults of an exchange and of a ring of four: a swap, and a cycle.
use Rattle.std.proofs.Common.{◌≡◌, ◌≢◌, ℕ, zero, suc, ◌+◌, ◌<◌, ◌≤◌, min, true, List, [], ◌∷◌, get_or, All, Option, Some, None, ◌⊎◌, inl, inr, refl, sym, ap, ◌∙◌, arith}
use Rattle.std.specs.Prelude.{EachIndex}
use Rattle.std.specs.List.{IsDistinct}
use Rattle.std.proofs.lemmas.Option.{none-some}
use Rattle.std.proofs.lemmas.Int.{ints}
use Rattle.fleet_model.specs.declared.geometry.Cell.{Cell}
use Rattle.fleet_model.specs.declared.geometry.Place.{Place}
use Rattle.fleet_model.specs.declared.geometry.Dir.{Dir}
use Rattle.fleet_model.specs.declared.geometry.Dir.TheVariants.{North, East, South, West}
use Rattle.fleet_model.specs.declared.task.Task.{Task}
use Rattle.fleet_model.specs.Geometry.{place_of, moved}
use Rattle.fleet_model.specs.Program.{origin}
use Rattle.fleet_model.specs.Conflict.{HasSwappingConflict, HasCycleConflict}
use Rattle.fleet_plan.specs.declared.plan_fault.Conflict.{Conflict}
use Rattle.fleet_plan.specs.declared.plan_fault.Conflict.TheVariants.{Vertex, Swapping, Cycle}
use Rattle.fleet_plan.specs.Plan.{cell_at, cell_of, last_cell, motion_of, AreNeighbours}
use Rattle.fleet_plan.specs.FirstFault.{StartsOnStart, EndsOnGoal, GoesOver, GoesRight, HasConflict, IsCycle, IsPairUpTo, IsConflictUpTo, HasStartsAndGoals, IsFirstPlanFault}
use Rattle.fleet_example.specs.Programs.{cell_xy}
use Rattle.fleet_example.specs.Plans.{swap_plan, swap_tasks, swap_fault, ring_plan, ring_tasks, ring_fault}

-- ---- paths over two neighbouring cells

module _ (c d : Cell) where
  late : (t : ℕ) → 1 ≤ t → cell_at (c ∷ d ∷ []) t ≡ d
  unfolding cell_at
  late t h = let e : min t 1 ≡ 1 = omega arith in ap (λ k. get_or (c ∷ d ∷ []) k origin) e

  at_first : cell_at (c ∷ d ∷ []) 0 ≡ c
  unfolding cell_at
  at_first = refl

  two_cells : (e : Dir) → place_of d ≡ moved (place_of c) e → GoesOver (λ q. true) (c ∷ d ∷ [])
  two_cells e next t = record { on_ground = refl; successive = step }
    where
      step : (s : ℕ) → t ≡ s + 1 → (cell_at (c ∷ d ∷ []) s ≡ cell_at (c ∷ d ∷ []) t) ⊎ AreNeighbours (cell_at (c ∷ d ∷ []) s) (cell_at (c ∷ d ∷ []) t)
      step zero p = inr (e, ap place_of (late t (omega (arith, p))) ∙ next ∙ ap (λ (b : Cell). moved (place_of b) e) (sym at_first))
      step (suc s) p = inl (late (suc s) (omega arith) ∙ sym (late t (omega (arith, p))))

task_of : Option Task → Task
task_of None = record { start = origin; goal = origin }
task_of (Some t) = t

pair_up_to : (i j : ℕ) → i < j → IsPairUpTo 0 1 i j
pair_up_to zero j h = inr (refl, omega arith)
pair_up_to (suc i) j h = inl (omega arith)

-- ---- an exchange

swap_ends : HasStartsAndGoals swap_tasks swap_plan
unfolding last_cell cell_of cell_at task_of
swap_ends = record { agents = refl; starts = starts; goals = goals }
  where
    starts : EachIndex swap_plan (StartsOnStart swap_tasks swap_plan)
    starts zero h t e = ap (λ o. (task_of o).start) e
    starts (suc zero) h t e = ap (λ o. (task_of o).start) e
    starts (suc (suc i)) h t e = absurd (none-some t e)

    goals : EachIndex swap_plan (EndsOnGoal swap_tasks swap_plan)
    goals zero h t e = ap (λ o. (task_of o).goal) e
    goals (suc zero) h t e = ap (λ o. (task_of o).goal) e
    goals (suc (suc i)) h t e = absurd (none-some t e)

swap_steps : EachIndex swap_plan (GoesRight (λ q. true) swap_plan)
swap_steps zero h = two_cells (cell_xy 0 0) (cell_xy 1 0) East refl
swap_steps (suc zero) h = two_cells (cell_xy 1 0) (cell_xy 0 0) West refl
swap_steps (suc (suc i)) h = let g : suc (suc i) < 2 = h in absurd (omega arith)

swapping : HasSwappingConflict (motion_of swap_plan) 0 0 1
unfolding cell_of cell_at
swapping = record { apart = λ e. omega arith; there = refl; back = refl; changed = λ e. let h = ap (λ (p : Place). p.x) e in absurd (omega (arith, ints)) }

swap_apart : (i j : ℕ) → i < j → j < 2 → motion_of swap_plan 0 i ≡ motion_of swap_plan 0 j → ⊥
unfolding cell_of cell_at
swap_apart zero (suc zero) h g e = let z = ap (λ (p : Place). p.x) e in absurd (omega (arith, ints))
swap_apart zero zero h g e = absurd (omega arith)
swap_apart zero (suc (suc j)) h g e = absurd (omega arith)
swap_apart (suc i) zero h g e = absurd (omega arith)
swap_apart (suc i) (suc j) h g e = absurd (omega arith)

pub swap_is_first : IsFirstPlanFault (λ q. true) swap_tasks swap_plan swap_fault
swap_is_first = (swap_ends, swap_steps, record { conflict = (omega arith, omega arith, swapping); first = first })
  where
    first : (d : Conflict) → HasConflict swap_plan d → IsConflictUpTo (Swapping 0 0 1) d
    first (Vertex zero i j) h = absurd (swap_apart i j h.0 h.1 h.2.same)
    first (Vertex (suc x) i j) h = inl (omega arith)
    first (Swapping zero i j) h = inr (refl, pair_up_to i j h.0)
    first (Swapping (suc x) i j) h = inl (omega arith)
    first (Cycle zero b) h = inr (refl, tt)
    first (Cycle (suc x) b) h = inl (omega arith)

-- ---- a ring of four

ring_ends : HasStartsAndGoals ring_tasks ring_plan
unfolding last_cell cell_of cell_at task_of
ring_ends = record { agents = refl; starts = starts; goals = goals }
  where
    starts : EachIndex ring_plan (StartsOnStart ring_tasks ring_plan)
    starts zero h t e = ap (λ o. (task_of o).start) e
    starts (suc zero) h t e = ap (λ o. (task_of o).start) e
    starts (suc (suc zero)) h t e = ap (λ o. (task_of o).start) e
    starts (suc (suc (suc zero))) h t e = ap (λ o. (task_of o).start) e
    starts (suc (suc (suc (suc i)))) h t e = absurd (none-some t e)

    goals : EachIndex ring_plan (EndsOnGoal ring_tasks ring_plan)
    goals zero h t e = ap (λ o. (task_of o).goal) e
    goals (suc zero) h t e = ap (λ o. (task_of o).goal) e
    goals (suc (suc zero)) h t e = ap (λ o. (task_of o).goal) e
    goals (suc (suc (suc zero))) h t e = ap (λ o. (task_of o).goal) e
    goals (suc (suc (suc (suc i)))) h t e = absurd (none-some t e)

ring_steps : EachIndex ring_plan (GoesRight (λ q. true) ring_plan)
ring_steps zero h = two_cells (cell_xy 0 0) (cell_xy 1 0) East refl
ring_steps (suc zero) h = two_cells (cell_xy 1 0) (cell_xy 1 1) South refl
ring_steps (suc (suc zero)) h = two_cells (cell_xy 1 1) (cell_xy 0 1) West refl
ring_steps (suc (suc (suc zero))) h = two_cells (cell_xy 0 1) (cell_xy 0 0) North refl
ring_steps (suc (suc (suc (suc i)))) h = let g : suc (suc (suc (suc i))) < 4 = h in absurd (omega arith)

four : List ℕ
four = 0 ∷ 1 ∷ 2 ∷ 3 ∷ []

each_below : All (λ i. i < 4) four
unfolding four
each_below zero d h = omega arith
each_below (suc zero) d h = omega arith
each_below (suc (suc zero)) d h = omega arith
each_below (suc (suc (suc zero))) d h = omega arith
each_below (suc (suc (suc (suc k)))) d h = absurd (omega arith)

cycle : HasCycleConflict (motion_of ring_plan) 0 four
unfolding cell_of cell_at IsDistinct four
cycle = record { three = omega arith; distinct = ((refl, (refl, (refl, tt))), ((refl, (refl, tt)), ((refl, tt), (tt, tt)))); next = next; moves = moves }
  where
    next : (k : ℕ) → k < 4 → motion_of ring_plan 1 (get_or (0 ∷ 1 ∷ 2 ∷ 3 ∷ []) k 0) ≡ motion_of ring_plan 0 (get_or (0 ∷ 1 ∷ 2 ∷ 3 ∷ []) (k + 1) 0)
    next zero h = refl
    next (suc zero) h = refl
    next (suc (suc zero)) h = refl
    next (suc (suc (suc zero))) h = refl
    next (suc (suc (suc (suc k)))) h = absurd (omega arith)

    moves : (k : ℕ) → k < 4 → motion_of ring_plan 1 (get_or (0 ∷ 1 ∷ 2 ∷ 3 ∷ []) k 0) ≢ motion_of ring_plan 0 (get_or (0 ∷ 1 ∷ 2 ∷ 3 ∷ []) k 0)
    moves zero h e = let z = ap (λ (p : Place). p.x) e in absurd (omega (arith, ints))
    moves (suc zero) h e = let z = ap (λ (p : Place). p.y) e in absurd (omega (arith, ints))
    moves (suc (suc zero)) h e = let z = ap (λ (p : Place). p.x) e in absurd (omega (arith, ints))
    moves (suc (suc (suc zero))) h e = let z = ap (λ (p : Place). p.y) e in absurd (omega (arith, ints))
    moves (suc (suc (suc (suc k)))) h e = absurd (omega arith)

-- agents i below j of the four
abbrev pub OfFour : (ℕ → ℕ → Type 0) → Type 0
OfFour R = R 0 1 × R 0 2 × R 0 3 × R 1 2 × R 1 3 × R 2 3

of_four : (R : ℕ → ℕ → Type 0) → OfFour R → (i j : ℕ) → i < j → j < 4 → R i j
of_four R r zero (suc zero) h g = r.0
of_four R r zero (suc (suc zero)) h g = r.1
of_four R r zero (suc (suc (suc zero))) h g = r.2
of_four R r (suc zero) (suc (suc zero)) h g = r.3
of_four R r (suc zero) (suc (suc (suc zero))) h g = r.4
of_four R r (suc (suc zero)) (suc (suc (suc zero))) h g = r.5
of_four R r i zero h g = absurd (omega arith)
of_four R r (suc i) (suc zero) h g = absurd (omega arith)
of_four R r (suc (suc i)) (suc (suc zero)) h g = absurd (omega arith)
of_four R r (suc (suc (suc i))) (suc (suc (suc zero))) h g = absurd (omega arith)
of_four R r i (suc (suc (suc (suc j)))) h g = absurd (omega arith)

other_column : (p q : Place) → p.x ≢ q.x → p ≢ q
other_column p q ne e = ne (ap (λ (r : Place). r.x) e)

other_row : (p q : Place) → p.y ≢ q.y → p ≢ q
other_row p q ne e = ne (ap (λ (r : Place). r.y) e)

ring_apart : OfFour (λ i j. motion_of ring_plan 0 i ≢ motion_of ring_plan 0 j)
unfolding cell_of cell_at
ring_apart = (
  other_column _ _ (λ e. absurd (omega (arith, ints))),
  other_column _ _ (λ e. absurd (omega (arith, ints))),
  other_row _ _ (λ e. absurd (omega (arith, ints))),
  other_row _ _ (λ e. absurd (omega (arith, ints))),
  other_column _ _ (λ e. absurd (omega (arith, ints))),
  other_column _ _ (λ e. absurd (omega (arith, ints))),
)

ring_unswapped : OfFour (λ i j. HasSwappingConflict (motion_of ring_plan) 0 i j → ⊥)
unfolding cell_of cell_at
ring_unswapped = (
  λ s. other_column _ _ (λ e. absurd (omega (arith, ints))) s.back,
  λ s. other_row _ _ (λ e. absurd (omega (arith, ints))) s.there,
  λ s. other_column _ _ (λ e. absurd (omega (arith, ints))) s.there,
  λ s. other_column _ _ (λ e. absurd (omega (arith, ints))) s.back,
  λ s. other_column _ _ (λ e. absurd (omega (arith, ints))) s.there,
  λ s. other_column _ _ (λ e. absurd (omega (arith, ints))) s.back,
)

is_cycle : IsCycle ring_plan 0 0 four
unfolding four
is_cycle = record { agents = each_below; conflict = cycle; among = (0, omega arith, refl); least_one = λ k d h. omega arith }

pub ring_is_first : IsFirstPlanFault (λ q. true) ring_tasks ring_plan ring_fault
ring_is_first = (ring_ends, ring_steps, record { conflict = (four, is_cycle); first = first })
  where
    first : (d : Conflict) → HasConflict ring_plan d → IsConflictUpTo (Cycle 0 0) d
    first (Vertex zero i j) h = absurd (of_four (λ i j. motion_of ring_plan 0 i ≢ motion_of ring_plan 0 j) ring_apart i j h.0 h.1 h.2.same)
    first (Vertex (suc x) i j) h = inl (omega arith)
    first (Swapping zero i j) h = absurd (of_four (λ i j. HasSwappingConflict (motion_of ring_plan) 0 i j → ⊥) ring_unswapped i j h.0 h.1 h.2)
    first (Swapping (suc x) i j) h = inl (omega arith)
    first (Cycle zero b) h = inr (refl, omega arith)
    first (Cycle (suc x) b) h = inl (omega arith)
