use Rattle.fleet_plan.proofs.Words.{ap, ◌∙◌, arith, take_all, plan_text}
use Rattle.fleet_plan.proofs.WritingSteps.{path_more}
use Rattle.fleet_plan.proofs.writing.write_plan.Goals as goal

pub loop-i-preserved : goal.loop-i-preserved
loop-i-preserved c = path_more c.loop-i.text.items _ c.args.plan.now c.loop-i.i c.path.result.now c.path.ensures c.loop-i.invariant c.in_ok-put_path.ensures

pub returns : goal.returns
returns c = c.loop-i.invariant ∙ ap plan_text (take_all c.loop-i.i c.args.plan.now (omega (arith, c.loop-i-test.false, c.agents-i-end.ensures.count)))
