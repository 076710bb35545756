use Rattle.fleet_search.proofs.Words.{◌∙◌, take_all}
use Rattle.fleet_search.proofs.BestLaws.{copied_more}
use Rattle.fleet_search.proofs.best.copy_paths.Goals as goal

pub loop-path-preserved : goal.loop-path-preserved
loop-path-preserved c = copied_more c.args.paths.now c.loop-path.copy.items c.push.new.self.items c.loop-path.path-index c.path-item.result c.loop-path-test.true c.loop-path.invariant c.path-item.is (rw c.in_ok-copy_path.ensures at c.in_ok-push.ensures.items)

pub returns : goal.returns
returns c = c.loop-path.invariant ∙ take_all c.loop-path.path-index c.args.paths.now c.loop-path-test.false
