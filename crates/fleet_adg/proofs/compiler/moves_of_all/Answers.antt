use Rattle.fleet_adg.proofs.Words.{◌≡◌, length, sum_by, ap, ◌∙◌, arith, indices, steps, moves_by, moves_in_all}
use Rattle.fleet_plan.proofs.Counted.{total_more}
use Rattle.fleet_adg.proofs.compiler.moves_of_all.Goals as goal

pub loop-i-preserved : goal.loop-i-preserved
loop-i-preserved c = record {
  counted = total_more (λ i. moves_by c.args.plan.now i (steps c.args.plan.now)) c.loop-i.i c.loop-i.moves c.moves_of-moves.result c.loop-i.invariant.counted c.moves_of-moves.ensures.value;
  few = omega (arith, c.loop-i.invariant.few, c.moves_of-moves.ensures.few);
}

pub returns : goal.returns
unfolding moves_in_all
returns c =
    let all : c.loop-i.i ≡ length c.args.plan.now = omega (arith, c.agents-i-end.ensures.count, c.loop-i-test.false, c.loop-i.auto.i-end) in
    c.loop-i.invariant.counted ∙ ap (λ n. sum_by (λ i. moves_by c.args.plan.now i (steps c.args.plan.now)) (indices n)) all
