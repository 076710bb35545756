use Rattle.fleet_verify.proofs.Words.{◌≡◌, ◌<◌, ◌≤◌, ◌+◌, ℕ, true, false, length, slice_index, set, below_more, refl, ◌∙◌, arith, length-set, looked_sum}
use Rattle.fleet_verify.proofs.Looking.{raised_moves, looking_more, looked_rises}
use Rattle.fleet_verify.proofs.needed.look_at_next.Goals as goal
use Rattle.fleet_verify.proofs.needed.look_at_next.Goals.{then-is_unseen, else-is_unseen}

pub raise-requires-clause-last : goal.raise-requires-clause-last
raise-requires-clause-last g c = omega (arith, c.loop-j.invariant.actions c.loop-j.j, c.if-is_unseen.true)

pub loop-j-preserved : goal.loop-j-preserved
loop-j-preserved g c =
    let p = g.P.ProgramView.program c.args.program.now in
    let looked = c.loop-j.looked in
    let j : ℕ = c.loop-j.j in
    let inside : j < length p = omega (arith, c.loop-j-test.true, c.agents-j-end.ensures.count) in
    elim c.if-is_unseen.branch [
      | then-is_unseen w ↦
          let up : looked_sum p looked + 1 ≤ looked_sum p (set looked j (slice_index looked j + 1)) = looked_rises p looked j (slice_index looked j + 1) inside (omega (arith, c.loop-j.invariant.long)) refl in
          rw (w.needed-is, w.looked-is, w.some-is)
          record {
            wide = w.raise.auto.row ∙ c.loop-j.invariant.wide;
            long = length-set looked j (slice_index looked j + 1) ∙ c.loop-j.invariant.long;
            actions = raised_moves p c.requires.range j (slice_index looked j + 1) c.loop-j.needed w.raise.new.row w.raise.ensures c.loop-j.invariant.actions;
            looking = λ a b h. looking_more p c.requires.range a b c.loop-j.needed looked w.raise.new.row j (slice_index looked j + 1) (c.loop-j.invariant.looking a b h) inside refl (omega (arith, w.if-is_unseen.true)) w.raise.auto.row w.raise.ensures;
            rises = omega (arith, c.loop-j.invariant.rises, up);
            some = λ e. omega (arith, c.loop-j.invariant.rises, up);
            none = λ e. absurd (let h : true ≡ false = e in cc);
          }
      | else-is_unseen w ↦
          rw (w.needed-is, w.looked-is, w.some-is)
          record {
            wide = c.loop-j.invariant.wide;
            long = c.loop-j.invariant.long;
            actions = c.loop-j.invariant.actions;
            looking = c.loop-j.invariant.looking;
            rises = c.loop-j.invariant.rises;
            some = c.loop-j.invariant.some;
            none = λ e. below_more (λ i. slice_index c.loop-j.needed i ≤ slice_index looked i) j (c.loop-j.invariant.none e) (omega (arith, w.if-is_unseen.false));
          }
    ]
