use Rattle.fleet_plan.proofs.Words.{◌≡◌, take, plan_text}
use Rattle.fleet_plan.proofs.writing.write_plan.Given as goal

abbrev pub invariant-loop-i : goal.invariant-loop-i
invariant-loop-i l = l.text.items ≡ plan_text (take l.i l.plan)
