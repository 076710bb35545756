use Rattle.fleet_plan.proofs.Words.{◌≡◌, ℕ, ◌+◌, true, false, inl, inr, sym, arith, slice_index, cases_lt, cell_index, cell_of}
use Rattle.fleet_plan.specs.Apart.{IsTakenFrom}
use Rattle.fleet_plan.proofs.Following.{nobody_in}
use Rattle.fleet_plan.proofs.sweep.Sweep.has_following.Goals as goal

pub loop-i-preserved : goal.loop-i-preserved
loop-i-preserved c k l =
    let i : ℕ = slice_index c.as_slice-i-items.result.now c.loop-i.i-index in
    let no : IsTakenFrom c.as_slice-places.result.now i (cell_index c.args.grid.now (cell_of c.args.plan.now i (c.args.time + 1))) → ⊥ = λ taken.
    (let yes : c.is_taken_from.result ≡ true = c.is_taken_from.ensures.1 (rw c.next_place-place.ensures taken) in
    let not : c.is_taken_from.result ≡ false = c.if-is_taken_from.false in absurd (cc)) in
    elim (cases_lt k c.loop-i.i-index) [
      | inl b ↦ c.loop-i.invariant k b
      | inr b ↦ let e : k ≡ c.loop-i.i-index = omega (arith, l, b) in rw e no
    ]

pub returns : goal.returns
returns c =
    let was = rw (sym c.self.view_is) at c.requires.swept in (
      λ (yes : false ≡ true). absurd (cc),
      λ f. absurd (nobody_in c.cells_have_places_of_their_own.ensures c.args.grid.now c.args.plan.now c.requires.on_map c.args.time c.as_slice-places.result.now
          (rw c.as_slice-places.ensures.value was.swept.sweep.here) c.self.inside.table (rw c.as_slice-places.ensures.value was.swept.entered)
          c.as_slice-i-items.result.now (rw c.as_slice-i-items.ensures.value was.swept.covers) (λ k l. c.loop-i.invariant k (omega (arith, l, c.loop-i-test.false))) f),
    )
