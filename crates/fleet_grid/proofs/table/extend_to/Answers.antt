use Rattle.std.proofs.Common.{◌∙◌}
use Rattle.fleet_grid.proofs.Pages.{page-after}
use Rattle.fleet_grid.proofs.table.extend_to.Goals as goal

pub loop-alloc-preserved : goal.loop-alloc-preserved
loop-alloc-preserved g c = λ k. rw c.in_ok-push.ensures.items (page-after c.loop-alloc.pages.items c.new.result k c.new.ensures.items ∙ c.loop-alloc.invariant k)
