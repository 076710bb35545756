use Rattle.fleet_dispatch.proofs.Cited.{refl, rules, arith, common_steps}
use Rattle.fleet_dispatch.proofs.run.answer_question.Goals as goal

pub returns : goal.returns
returns g c = record {
  ready = search rules;
  done = refl;
  taken = refl;
  said = grind (arith, common_steps);
}
