use Rattle.fleet_plan.proofs.Words.{FiltersInPlace, is_under_way}
use Rattle.fleet_plan.proofs.plan.Plan.keep_under_way.Given as goal

abbrev pub invariant-loop-next : goal.invariant-loop-next
invariant-loop-next l = FiltersInPlace (is_under_way l.self l.time) l.initial.agents.items l.agents.items l.kept l.next
