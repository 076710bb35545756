use Rattle.fleet_needs.proofs.Words.{◌-◌, ◌+◌, ◌<◌, ℕ, List, Vec, Global, length, set, slice_index, refl, sym, subst, ap, ◌∙◌, arith, inl, inr, get_or_read, get_or-set_same, get_or-set_other, length-set}
use Rattle.fleet_needs.proofs.JoinLaws.{AreFilledTo, filled_more}
use Rattle.fleet_needs.proofs.schedule.fill.Goals as goal
use Rattle.fleet_needs.proofs.schedule.fill.Goals.{then-index-eq0, else-index-eq0}

pub loop-place-preserved : goal.loop-place-preserved
loop-place-preserved c =
    let x : ℕ = c.loop-place.place in
    let old = c.args.noted.now in
    let mid = c.loop-place.noted in
    let was = c.loop-place.invariant in
    let low = c.loop-place.auto.place in
    let within : x < length mid.items = omega (arith, c.loop-place-test.true, c.len-place-end.ensures, was.all) in
    let read = get_or_read mid.items x c.index.result.now within c.index.ensures 0 in
    elim c.if-index-eq0.branch [
      | else-index-eq0 w ↦ subst (AreFilledTo (x + 1) old) (sym w.noted-is) (filled_more old mid mid x (omega (arith, low)) refl (λ y ne. refl) (inl (refl, omega (arith, read, w.if-index-eq0.false))) was)
      | then-index-eq0 w ↦
          let taken = get_or_read mid.items (x - 1) w.index-then-index-eq0.result.now (omega (arith, within)) w.index-then-index-eq0.ensures 0 in
          let v : ℕ = slice_index mid.items (x - 1) in
          let put = ap (λ (xs : Vec ℕ Global). xs.items) w.noted-is ∙ ap (set mid.items x) taken in
          filled_more old mid c.if-index-eq0.noted x (omega (arith, low)) (ap (λ (xs : List ℕ). length xs) put ∙ length-set mid.items x v) (λ y ne. ap (λ (xs : List ℕ). slice_index xs y) put ∙ get_or-set_other mid.items x y v 0 ne)
          (inr (ap (λ (xs : List ℕ). slice_index xs x) put ∙ get_or-set_same mid.items x v 0 within, omega (arith, read, w.if-index-eq0.true))) was
    ]
