use Rattle.fleet_search.proofs.Words.{◌≡◌, IfErr, subst, is_passable, IsInfeasible}
use Rattle.fleet_search.specs.declared.fault.SearchFault.TheVariants.{NoPath}
use Rattle.fleet_search.proofs.earliest_path.earliest.Goals as goal

pub returns-clause-no_path : goal.returns-clause-no_path
returns-clause-no_path c = subst (λ g. IfErr c.earliest_over.result (λ e. e ≡ NoPath → IsInfeasible (is_passable g) c.args.reserved.now c.args.start c.args.goal c.args.horizon)) c.in_ok-distances.ensures c.earliest_over.ensures.no_path
