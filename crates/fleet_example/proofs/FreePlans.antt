-- A plan that is free of conflict.
use Rattle.std.proofs.Common.{◌≡◌, ℕ, zero, suc, ◌+◌, ◌-◌, ◌<◌, ◌≤◌, min, true, List, [], ◌∷◌, length, get_or, slice_get, All, Some, None, ◌⊎◌, inl, inr, refl, sym, ap, ◌∙◌, arith, pos, ◌==◌}
use Rattle.std.specs.List.{IsDistinct}
use Rattle.std.proofs.lemmas.Bool.{eqb-false}
use Rattle.std.proofs.lemmas.Option.{none-some}
use Rattle.fleet_model.specs.declared.geometry.Cell.{Cell}
use Rattle.fleet_model.specs.declared.geometry.Dir.{Dir}
use Rattle.fleet_model.specs.declared.geometry.Dir.TheVariants.{East}
use Rattle.fleet_model.specs.Geometry.{place_of, moved}
use Rattle.fleet_model.specs.Program.{origin}
use Rattle.fleet_model.specs.Conflict.{HasVertexConflict, HasSwappingConflict}
use Rattle.fleet_model.specs.declared.task.Task.{Task}
use Rattle.fleet_plan.specs.Plan.{cell_at, cell_of, last_cell, motion_of, IsConflictFree}
use Rattle.fleet_example.specs.Programs.{cell_xy, pair_tasks}
use Rattle.fleet_example.specs.Plans.{base_plan}
use Rattle.fleet_model.proofs.Cells.{place_of-injective}

-- ---- the base plan

first_cell : (t : ℕ) → cell_of base_plan 0 t ≡ cell_xy (1 + min t 2) 0
unfolding cell_of cell_at
first_cell zero = refl
first_cell (suc zero) = refl
first_cell (suc (suc t)) = let e : min (suc (suc t)) 2 ≡ 2 = omega arith in ap (λ k. get_or (cell_xy 1 0 ∷ cell_xy 2 0 ∷ cell_xy 3 0 ∷ []) k origin) e ∙ ap (λ k. cell_xy (1 + k) 0) (sym e)

second_cell : (t : ℕ) → cell_of base_plan 1 t ≡ cell_xy (min t 2) 0
unfolding cell_of cell_at
second_cell zero = refl
second_cell (suc zero) = refl
second_cell (suc (suc t)) = let e : min (suc (suc t)) 2 ≡ 2 = omega arith in ap (λ k. get_or (cell_xy 0 0 ∷ cell_xy 1 0 ∷ cell_xy 2 0 ∷ []) k origin) e ∙ ap (λ k. cell_xy k 0) (sym e)

column : ℕ → ℕ → ℕ
column i t = 1 - i + min t 2

cell_is : (i t : ℕ) → i < 2 → cell_of base_plan i t ≡ cell_xy (column i t) 0
unfolding column
cell_is zero t h = first_cell t
cell_is (suc zero) t h = second_cell t ∙ ap (λ k. cell_xy k 0) (let e : min t 2 ≡ 1 - 1 + min t 2 = omega arith in e)
cell_is (suc (suc i)) t h = absurd (omega arith)

-- equal places are in equal columns
columns : (i j t u : ℕ) → i < 2 → j < 2 → motion_of base_plan t i ≡ motion_of base_plan u j → column i t ≡ column j u
columns i j t u hi hj e = ap (λ (c : Cell). c.x) (sym (cell_is i t hi) ∙ place_of-injective (cell_of base_plan i t) (cell_of base_plan j u) e ∙ cell_is j u hj)

no_vertex : (x i j : ℕ) → i < 2 → j < 2 → HasVertexConflict (motion_of base_plan) x i j → ⊥
unfolding column
no_vertex x i j hi hj c = let e = columns i j x x hi hj c.same in c.apart (omega arith)

no_swapping : (x i j : ℕ) → i < 2 → j < 2 → HasSwappingConflict (motion_of base_plan) x i j → ⊥
unfolding column
no_swapping x i j hi hj c =
    let a = columns i j (x + 1) x hi hj c.there in
    let b = columns j i (x + 1) x hj hi c.back in
    let ne = c.apart in
    omega arith

three_of_two : (ring : List ℕ) → All (λ i. i < 2) ring → 3 ≤ length ring → IsDistinct ◌==◌ ring → ⊥
unfolding IsDistinct
three_of_two [] a h d = omega arith
three_of_two (x ∷ []) a h d = omega arith
three_of_two (x ∷ y ∷ []) a h d = omega arith
three_of_two (x ∷ y ∷ z ∷ rest) a h d =
    let xy = eqb-false x y d.0.0 in
    let xz = eqb-false x z d.0.1.0 in
    let yz = eqb-false y z d.1.0.0 in
    omega (arith, a 0 0 (omega arith), a 1 0 (omega arith), a 2 0 (omega arith))

successive : (i x : ℕ) → i < 2 → (cell_of base_plan i x ≡ cell_of base_plan i (x + 1)) ⊎ ((e : Dir) × (place_of (cell_of base_plan i (x + 1)) ≡ moved (place_of (cell_of base_plan i x)) e))
unfolding column
successive i x h = elim (cases x) [
  | inl l ↦ inr (East, ap place_of (cell_is i (x + 1) h) ∙ (λ k. record { x = pos (next l k); y = pos 0 }) ∙ ap (λ c. moved (place_of c) East) (sym (cell_is i x h)))
  | inr l ↦ inl (cell_is i x h ∙ ap (λ k. cell_xy k 0) (same l) ∙ sym (cell_is i (x + 1) h))
]
  where
    cases : (x : ℕ) → (x < 2) ⊎ (2 ≤ x)
    cases x = grind arith

    next : x < 2 → 1 - i + min (x + 1) 2 ≡ 1 - i + min x 2 + 1
    next l = omega arith

    same : 2 ≤ x → 1 - i + min x 2 ≡ 1 - i + min (x + 1) 2
    same l = omega arith

pub base_is_free : IsConflictFree (λ q. true) pair_tasks base_plan
unfolding last_cell cell_of cell_at
base_is_free = record {
  agents = refl;
  ends = ends;
  on_ground = λ i x h. refl;
  successive = successive;
  vertex = no_vertex;
  swapping = no_swapping;
  cycle = λ x ring a c. three_of_two ring a c.three c.distinct;
}
  where
    ends : (i : ℕ) (t : Task) → slice_get pair_tasks i ≡ Some t → (cell_of base_plan i 0 ≡ t.start) × (last_cell base_plan i ≡ t.goal)
    ends zero t e = (ap (λ o. (task_of o).start) e, ap (λ o. (task_of o).goal) e)
      where
        task_of : package.Rattle.std.specs.Prelude.Option Task → Task
        task_of None = record { start = origin; goal = origin }
        task_of (Some t) = t
    ends (suc zero) t e = (ap (λ o. (task_of o).start) e, ap (λ o. (task_of o).goal) e)
      where
        task_of : package.Rattle.std.specs.Prelude.Option Task → Task
        task_of None = record { start = origin; goal = origin }
        task_of (Some t) = t
    ends (suc (suc i)) t e = absurd (none-some t e)
