use Rattle.fleet_search.proofs.Words.{IfOk-weaker, IfErr-weaker, is_passable}
use Rattle.fleet_search.proofs.OrderLaws.{one_try-made, one_try-stuck}
use Rattle.fleet_search.proofs.orders.plan.Goals as goal

pub returns-clause-made : goal.returns-clause-made
returns-clause-made c = IfOk-weaker c.plan_in_orders.result _ _ (λ checked. one_try-made (is_passable c.args.grid.now) c.args.instance.now c.args.horizon checked.plan) c.plan_in_orders.ensures.made

pub returns-clause-no_path : goal.returns-clause-no_path
returns-clause-no_path c = IfErr-weaker c.plan_in_orders.result _ _ (λ e stuck agent is. one_try-stuck (is_passable c.args.grid.now) c.args.instance.now c.args.horizon agent (stuck agent is)) c.plan_in_orders.ensures.no_path
