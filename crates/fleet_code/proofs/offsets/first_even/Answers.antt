use Rattle.fleet_code.proofs.Words.{◌≡◌, ◌+◌, ◌-◌, ℕ, length, slice_index_or, ap, subst, arith, IsEvenFrom}
use Rattle.fleet_code.proofs.Even.{even_more}
use Rattle.fleet_code.proofs.offsets.first_even.Goals as goal

pub loop-back-preserved : goal.loop-back-preserved
loop-back-preserved c =
    let items = c.args.offsets.now in
    let at : ℕ = length items - 1 - (c.loop-back.back + 1) in
    let next : length items - 1 - c.loop-back.back ≡ at + 1 = omega (arith, c.loop-back-test.true) in
    let before : (length items - 1 - c.loop-back.back) - 1 ≡ at = omega (arith, next) in
    let old : IsEvenFrom items (at + 1) c.args.stride = subst (λ (k : ℕ). IsEvenFrom items k c.args.stride) next c.loop-back.invariant in
    even_more items at c.args.stride old
    (omega (arith, c.if-is_uneven.false, c.from.ensures, c.from-in-loop-back.ensures, c.from-in-loop-back-2.ensures, ap (λ (k : ℕ). slice_index_or items k 0) before, ap (λ (k : ℕ). slice_index_or items k 0) next))
