use Rattle.fleet_plan.proofs.Words.{rules, length, ◌<◌, FiltersInPlace-more_no, FiltersInPlace-more_set, is_under_way}
use Rattle.fleet_plan.proofs.RowLaws.{goes_on, has_ended, still_there}
use Rattle.fleet_plan.proofs.plan.Plan.keep_under_way.Goals as goal
use Rattle.fleet_plan.proofs.plan.Plan.keep_under_way.Goals.{then-is_moving, else-is_moving}

pub path-requires : goal.path-requires
path-requires c = still_there (λ i. i < length c.args.self.now) (is_under_way c.args.self.now c.args.time) c.args.agents.now.items c.loop-next.agents.items c.loop-next.kept c.loop-next.next c.index-i.result.now c.loop-next.invariant (search rules) c.index-i.ensures c.requires

pub loop-next-preserved : goal.loop-next-preserved
loop-next-preserved c =
    let plan = c.args.self.now in
    let i = c.index-i.result.now in
    elim c.if-is_moving.branch [
      | then-is_moving w ↦ rw (w.agents-is, w.kept-is) (FiltersInPlace-more_set c.loop-next.invariant (search rules) (goes_on plan c.args.time i c.steps.result c.path.result.now c.path.ensures c.steps.ensures.time w.if-is_moving.true) c.index-i.ensures)
      | else-is_moving w ↦ rw (w.agents-is, w.kept-is) (FiltersInPlace-more_no c.loop-next.invariant (search rules) (has_ended plan c.args.time i c.steps.result c.path.result.now c.path.ensures c.steps.ensures.time w.if-is_moving.false) c.index-i.ensures)
    ]
