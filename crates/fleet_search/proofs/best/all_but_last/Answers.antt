use Rattle.std.proofs.lemmas.Result.{IfOk-weaker}
use Rattle.fleet_search.proofs.BestLaws.{but_last}
use Rattle.fleet_search.proofs.best.all_but_last.Goals as goal

pub returns : goal.returns
returns c = IfOk-weaker c.copy_paths.result _ _ (λ kept. but_last c.args.problem.now c.args.order.now c.args.paths.now kept.items c.requires.paths) c.copy_paths.ensures
