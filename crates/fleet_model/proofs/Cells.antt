-- When two cells or places are one, the tests of it, and the places of cells.
use Rattle.std.proofs.Common.{◌≡◌, ◌≢◌, true, false, ◌==◌, ◌⊎◌, inl, inr, ap}
use Rattle.std.proofs.lemmas.Bool.{and_parts, and_from, eqb-true, eq-eqb, both_ways, cases_Bool, false_from_ne_true}
use Rattle.fleet_model.specs.declared.geometry.Cell.{Cell}
use Rattle.fleet_model.specs.Geometry.{is_same_cell, place_of, is_same_place}
use Rattle.std.specs.Ordering.{int_eq}
use Rattle.std.proofs.lemmas.Bool.Decides.{Decides-int_eq}
use Rattle.fleet_model.specs.declared.geometry.Place.{Place}

pub cell_from_parts : (c d : Cell) → c.x ≡ d.x → c.y ≡ d.y → c ≡ d
cell_from_parts c d ex ey = λ i. record { x = ex i; y = ey i }

pub is_same_cell-true : (c d : Cell) → is_same_cell c d ≡ true → c ≡ d
is_same_cell-true c d h =
    let p = and_parts (c.x == d.x) (c.y == d.y) h in
    cell_from_parts c d (eqb-true c.x d.x p.0) (eqb-true c.y d.y p.1)

pub is_same_cell-eq : (c d : Cell) → c ≡ d → is_same_cell c d ≡ true
is_same_cell-eq c d e = and_from (c.x == d.x) (c.y == d.y) (eq-eqb c.x d.x (ap (λ (z : Cell). z.x) e)) (eq-eqb c.y d.y (ap (λ (z : Cell). z.y) e))

pub is_same_cell-false : (c d : Cell) → is_same_cell c d ≡ false → c ≢ d
is_same_cell-false c d h e = both_ways (is_same_cell c d) h (is_same_cell-eq c d e)

pub is_same_cell-ne : (c d : Cell) → c ≢ d → is_same_cell c d ≡ false
is_same_cell-ne c d ne = false_from_ne_true (is_same_cell c d) (λ h. ne (is_same_cell-true c d h))

pub cell_cases : (c d : Cell) → (c ≡ d) ⊎ (c ≢ d)
cell_cases c d = elim (cases_Bool (is_same_cell c d)) [ inl h ↦ inl (is_same_cell-true c d h) | inr h ↦ inr (is_same_cell-false c d h) ]

pub place_of-injective : (c d : Cell) → place_of c ≡ place_of d → c ≡ d
place_of-injective c d e =
    let ex : c.x ≡ d.x = (let h = ap (λ (p : Place). p.x) e in cc) in
    let ey : c.y ≡ d.y = (let h = ap (λ (p : Place). p.y) e in cc) in
    λ i. record { x = ex i; y = ey i }

pub is_same_place-true : (q r : Place) → is_same_place q r ≡ true → q ≡ r
is_same_place-true q r e =
    let parts = and_parts (int_eq q.x r.x) (int_eq q.y r.y) e in
    let ex : q.x ≡ r.x = (Decides-int_eq q.x r.x).0 parts.0 in
    let ey : q.y ≡ r.y = (Decides-int_eq q.y r.y).0 parts.1 in
    λ i. record { x = ex i; y = ey i }

pub is_same_place-eq : (q r : Place) → q ≡ r → is_same_place q r ≡ true
is_same_place-eq q r e =
    and_from (int_eq q.x r.x) (int_eq q.y r.y)
    ((Decides-int_eq q.x r.x).1 (ap (λ (s : Place). s.x) e)) ((Decides-int_eq q.y r.y).1 (ap (λ (s : Place). s.y) e))
