use Rattle.fleet_adg.proofs.Words.{◌≡◌, map, take, fold, written, kind_of, movers, all_actions_by}
use Rattle.fleet_adg.proofs.Folds.{add_by}
use Rattle.fleet_adg.proofs.sweep.add_actions.Given as goal

abbrev pub invariant-loop-one : goal.invariant-loop-one
invariant-loop-one l =
    let plan = l.at.plan.now in
    let deps = kind_of l.leavings in
    l.actions ≡ map (written l.at.version) (fold (add_by plan deps l.at.time) (all_actions_by plan deps l.at.time) (take l.one-index (movers plan l.at.time)))
