use Rattle.fleet_dispatch.proofs.Cited.{refl, rules, arith, common_steps}
use Rattle.fleet_dispatch.proofs.run.tell_orders.Goals as goal

pub returns : goal.returns
returns g c = record {
  ready = search rules;
  done = c.tell-end.ensures.done;
  told = c.tell-end.ensures.told;
  taken = refl;
  said = grind (arith, common_steps);
}
