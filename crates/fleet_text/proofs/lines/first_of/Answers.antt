use Rattle.std.proofs.Common.{arith}
use Rattle.fleet_text.proofs.BlockLaws.{first_found, first_later}
use Rattle.fleet_text.proofs.lines.first_of.Goals as goal

pub returns-then-has_one : goal.returns-then-has_one
returns-then-has_one g c =
    let found = c.in-Some.ensures.cases in
    first_found g.C.ByteClass.test c.args.text.now c.loop-block.rest.now c.in-Some.block.now c.in-Some.after.now c.mask-mask.result c.loop-block.invariant.so_far c.loop-block.invariant.within
    found.0 found.1 found.2 c.mask-mask.ensures (λ e. c.if-has_one.true (omega (arith, e)))

pub loop-block-preserved : goal.loop-block-preserved
loop-block-preserved g c =
    let found = c.in-Some.ensures.cases in
    record {
      within = omega (arith, found.2, c.loop-block.invariant.within);
      so_far = first_later g.C.ByteClass.test c.args.text.now c.loop-block.rest.now c.in-Some.block.now c.in-Some.after.now c.mask-mask.result c.loop-block.invariant.so_far c.loop-block.invariant.within
          found.0 found.1 found.2 c.mask-mask.ensures (omega (arith, c.if-has_one.false));
    }
