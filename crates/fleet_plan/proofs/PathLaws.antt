-- Paths, step by step.
use Rattle.fleet_plan.proofs.Words.{◌≡◌, ◌↔◌, ℕ, ◌+◌, ◌-◌, ◌<◌, ◌≤◌, min, Bool, true, false, IsTrue, [], length, get_or, slice_get, Some, ◌⊎◌, inl, inr, sym, ap, ◌∙◌, subst, pos, arith, ◌+ℤ◌, ◌-ℤ◌, abs_diff, cases_lt, cases_eq, ints, get_or_default, get_or_from_slice_get, Cell, Place, Dir, North, East, South, West, place_of, moved, origin, cell_from_parts, Path, Plan, cell_at, cell_of, last_cell, AreNeighbours, end_of, IsRightAt, GoesOver}

-- ---- equal or neighbouring cells

pub beside_if : (a b : Cell) → abs_diff a.x b.x + abs_diff a.y b.y ≤ 1 → (a ≡ b) ⊎ AreNeighbours a b
beside_if a b h = elim (cases_lt a.x b.x) [
  | inl l ↦ let ex : b.x ≡ a.x + 1 = omega arith in let ey : b.y ≡ a.y = omega arith in inr (East, λ k. record { x = pos (ex k); y = pos (ey k) })
  | inr l ↦ elim (cases_lt b.x a.x) [
    | inl m ↦ let e : a.x ≡ b.x + 1 = omega arith in let ex : pos b.x ≡ pos a.x -ℤ pos 1 = omega (arith, ints) in let ey : b.y ≡ a.y = omega arith in inr (West, λ k. record { x = ex k; y = pos (ey k) })
    | inr m ↦ let ex : b.x ≡ a.x = omega arith in elim (cases_lt a.y b.y) [
      | inl n ↦ let ey : b.y ≡ a.y + 1 = omega arith in inr (South, λ k. record { x = pos (ex k); y = pos (ey k) })
      | inr n ↦ elim (cases_lt b.y a.y) [
        | inl o ↦ let e : a.y ≡ b.y + 1 = omega arith in let ey : pos b.y ≡ pos a.y -ℤ pos 1 = omega (arith, ints) in inr (North, λ k. record { x = pos (ex k); y = ey k })
        | inr o ↦ inl (cell_from_parts a b (sym ex) (omega arith))
      ]
    ]
  ]
]

near : (a b : Cell) (e : Dir) → place_of b ≡ moved (place_of a) e → abs_diff a.x b.x + abs_diff a.y b.y ≤ 1
near a b North e = let x : pos b.x ≡ pos a.x = ap (λ (p : Place). p.x) e in let y : pos b.y ≡ pos a.y -ℤ pos 1 = ap (λ (p : Place). p.y) e in omega (arith, ints)
near a b East e = let x : pos b.x ≡ pos a.x +ℤ pos 1 = ap (λ (p : Place). p.x) e in let y : pos b.y ≡ pos a.y = ap (λ (p : Place). p.y) e in omega (arith, ints)
near a b South e = let x : pos b.x ≡ pos a.x = ap (λ (p : Place). p.x) e in let y : pos b.y ≡ pos a.y +ℤ pos 1 = ap (λ (p : Place). p.y) e in omega (arith, ints)
near a b West e = let x : pos b.x ≡ pos a.x -ℤ pos 1 = ap (λ (p : Place). p.x) e in let y : pos b.y ≡ pos a.y = ap (λ (p : Place). p.y) e in omega (arith, ints)

pub beside_only : (a b : Cell) → (a ≡ b) ⊎ AreNeighbours a b → abs_diff a.x b.x + abs_diff a.y b.y ≤ 1
beside_only a b (inl e) = let x : a.x ≡ b.x = ap (λ (c : Cell). c.x) e in let y : a.y ≡ b.y = ap (λ (c : Cell). c.y) e in omega arith
beside_only a b (inr n) = near a b n.0 n.1

-- in one column and in one row two cells are neighbours, or one, by the other numbers
pub beside_in_column : (a b : Cell) → a.x ≡ b.x → ((a.y ≤ b.y + 1) × (b.y ≤ a.y + 1)) ↔ ((a ≡ b) ⊎ AreNeighbours a b)
beside_in_column a b e = (λ h. beside_if a b (let u = h.0 in let v = h.1 in omega arith), λ h. let l = beside_only a b h in (omega arith, omega arith))

pub beside_in_row : (a b : Cell) → a.y ≡ b.y → ((a.x ≤ b.x + 1) × (b.x ≤ a.x + 1)) ↔ ((a ≡ b) ⊎ AreNeighbours a b)
beside_in_row a b e = (λ h. beside_if a b (let u = h.0 in let v = h.1 in omega arith), λ h. let l = beside_only a b h in (omega arith, omega arith))

-- ---- the cells of a path

pub at_within : (path : Path) (t : ℕ) (d : Cell) → t < length path → cell_at path t ≡ get_or path t d
unfolding cell_at
at_within path t d l = let e : min t (length path - 1) ≡ t = omega arith in ap (λ n. get_or path n origin) e ∙ get_or_default path t origin d l

-- after its last cell an agent stays
pub at_past : (path : Path) (t : ℕ) → length path ≤ t + 1 → cell_at path t ≡ cell_at path (length path - 1)
unfolding cell_at
at_past path t l = let e : min t (length path - 1) ≡ min (length path - 1) (length path - 1) = omega arith in ap (λ n. get_or path n origin) e

module _ (passable : Place → Bool) (path : Path) where
  pub right_at : (t : ℕ) (before cell : Cell) → before ≡ cell_at path (t - 1) → cell ≡ cell_at path t → IsTrue (passable (place_of cell)) → (before ≡ cell) ⊎ AreNeighbours before cell → IsRightAt passable path t
  right_at t before cell eb ec p n = record {
    on_ground = subst (λ (z : Cell). IsTrue (passable (place_of z))) ec p;
    successive = λ s e.
        let eb' : before ≡ cell_at path s = eb ∙ ap (cell_at path) (let k : t - 1 ≡ s = omega arith in k) in
        subst (λ (z : Cell). (z ≡ cell_at path t) ⊎ AreNeighbours z (cell_at path t)) eb' (subst (λ (z : Cell). (before ≡ z) ⊎ AreNeighbours before z) ec n);
  }

  pub not_on_ground : (t : ℕ) (cell : Cell) → cell ≡ cell_at path t → passable (place_of cell) ≡ false → IsRightAt passable path t → ⊥
  not_on_ground t cell ec p r = let h : passable (place_of cell) ≡ true = ap (λ (z : Cell). passable (place_of z)) ec ∙ r.on_ground in let e : true ≡ false = sym h ∙ p in cc

  pub not_beside : (t : ℕ) (before cell : Cell) → before ≡ cell_at path (t - 1) → cell ≡ cell_at path t → ((before ≡ cell) ⊎ AreNeighbours before cell → ⊥) → IsRightAt passable path t → ⊥
  not_beside t before cell eb ec n r = elim (cases_eq t 0) [
    | inl z ↦ n (inl (eb ∙ ap (cell_at path) (let k : t - 1 ≡ t = omega arith in k) ∙ sym ec))
    | inr z ↦ n (subst (λ (a : Cell). (a ≡ cell) ⊎ AreNeighbours a cell) (sym eb) (subst (λ (b : Cell). (cell_at path (t - 1) ≡ b) ⊎ AreNeighbours (cell_at path (t - 1)) b) (sym ec) (r.successive (t - 1) (omega arith))))
  ]

  pub right_all : (n : ℕ) → 1 ≤ length path → length path ≤ n → ((s : ℕ) → s < n → IsRightAt passable path s) → GoesOver passable path
  right_all n some h r t = elim (cases_lt t (length path)) [
    | inl l ↦ r t (omega arith)
    | inr l ↦ record {
      on_ground = subst (λ (z : Cell). IsTrue (passable (place_of z))) (sym (at_past path t (omega arith))) (r (length path - 1) (omega arith)).on_ground;
      successive = λ s e. inl (at_past path s (omega arith) ∙ sym (at_past path t (omega arith)));
    }
  ]

-- ---- the last cell

pub last_is : (plan : Plan) (i : ℕ) (p : Path) → slice_get plan i ≡ Some p → end_of p ≡ last_cell plan i
unfolding last_cell cell_of
last_is plan i p e = ap (λ (q : Path). cell_at q (length q - 1)) (sym (get_or_from_slice_get plan i p [] e))

-- ---- tasks
