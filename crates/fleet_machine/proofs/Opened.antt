-- The rows at the start, and the test for the end.
use Rattle.std.proofs.Common.{◌≡◌, ◌<◌, ℕ, zero, suc, ◌+◌, false, [], ◌∷◌, ◌++◌, take, length, get_or, replicate, None, refl, ap, sym, ◌∙◌, zero-add, arith, inl, inr}
use Rattle.std.specs.Prelude.{nat_le}
use Rattle.std.proofs.lemmas.List.{take_more, length-map, length_push, get_or_push, get_or_append_left}
use Rattle.std.proofs.lemmas.List.FromFn.{length-range_with_len, get_or-range_with_len}
use Rattle.std.proofs.lemmas.List.Folds.{list_all_at}
use Rattle.std.proofs.lemmas.Bool.{cases_lt, lt-leb}
use Rattle.fleet_model.specs.declared.standing.Standing.{Standing}
use Rattle.fleet_model.specs.declared.geometry.Cell.{Cell}
use Rattle.fleet_model.specs.Geometry.{place_of}
use Rattle.fleet_model.specs.Program.{Program, start_of, moves}
use Rattle.fleet_model.specs.Machine.{Configuration, standing_at, count_at, opening, indices, is_finished}
use Rattle.fleet_machine.specs.WaitLists.{home_of}
use Rattle.fleet_machine.specs.Near.{IsNear, AreNear}

-- an agent at its start
abbrev pub at_start : Cell → Standing
at_start c = record { place = place_of c; count = 0 }

pub opening_at : (p : Program) (i : ℕ) (d : Standing) → i < length p → get_or (opening p) i d ≡ at_start (start_of p i)
opening_at [] i d h = absurd (omega arith)
opening_at (a ∷ p) zero d h = refl
opening_at (a ∷ p) (suc i) d h = opening_at p i d (omega arith)

pub opening_more : (p : Program) (rows : Configuration) (i : ℕ) (c : Cell) (s : Standing) → i < length p → rows ≡ take i (opening p) → c ≡ start_of p i → s ≡ at_start c
    → rows ++ s ∷ [] ≡ take (i + 1) (opening p)
opening_more p rows i c s inside before e is =
    let long : i < length (opening p) = rw length-map inside in
    rw (take_more (opening p) i s long, opening_at p i s inside, before, is, e) refl

-- where nobody stands in a list
pub home_of_nobody : (n i : ℕ) → home_of (replicate n None) i ≡ None
home_of_nobody zero i = refl
home_of_nobody (suc n) zero = refl
home_of_nobody (suc n) (suc i) = home_of_nobody n i

pub near_none : AreNear []
near_none = λ i h. absurd (omega arith)

pub near_more : (rows : Configuration) (s : Standing) → AreNear rows → IsNear s → AreNear (rows ++ s ∷ [])
near_more rows s near new = λ i h.
    elim (cases_lt i (length rows)) [
      | inl l ↦ rw (get_or_append_left rows (s ∷ []) (standing_at [] 0) i l) (near i l)
      | inr l ↦ let e : length rows ≡ i = omega (arith, length_push rows s) in rw (get_or_push rows s (standing_at [] 0) i e) new
    ]

pub not_finished_if : (p : Program) (c : Configuration) (i : ℕ) → i < length p → count_at c i < moves p i → false ≡ is_finished p c
not_finished_if p c i inside h =
    let test = λ (k : ℕ). nat_le (moves p k) (count_at c k) in
    let long : i < length (indices (length p)) = rw length-range_with_len inside in
    let here : get_or (indices (length p)) i 0 ≡ i = get_or-range_with_len 0 (length p) i 0 inside ∙ zero-add i in
    sym (list_all_at test (indices (length p)) i 0 long (ap test here ∙ lt-leb _ _ h))
