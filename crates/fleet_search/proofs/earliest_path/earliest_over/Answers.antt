use Rattle.fleet_search.proofs.Words.{subst, is_passable, IsOnGround, IsInfeasible}
use Rattle.fleet_search.proofs.earliest_path.earliest_over.Goals as goal

pub compute-requires-clause-start : goal.compute-requires-clause-start
compute-requires-clause-start c = subst (λ g. IsOnGround g c.args.start) c.grid-grid.ensures c.in-Some.ensures.some.start_on_ground

pub compute-requires-clause-goal : goal.compute-requires-clause-goal
compute-requires-clause-goal c = subst (λ g. IsOnGround g c.args.goal) c.grid-grid.ensures c.in-Some.ensures.some.goal_on_ground

pub returns-in_default-clause-no_path : goal.returns-in_default-clause-no_path
returns-in_default-clause-no_path c = λ _. subst (λ g. IsInfeasible (is_passable g) c.args.reserved.now c.args.start c.args.goal c.args.horizon) c.grid-grid.ensures c.in_default.ensures.none
