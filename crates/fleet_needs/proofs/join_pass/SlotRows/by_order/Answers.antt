use Rattle.std.proofs.lemmas.Result.{IfOk-weaker}
use Rattle.fleet_needs.proofs.join_pass.SlotRows.by_order.Goals as goal

pub returns : goal.returns
returns g c = IfOk-weaker c.of-2.result _ _ (λ m made. record { rows = made.rows; passed = rw made.joins c.in_ok-joins.ensures.passed }) c.of-2.ensures
