use Rattle.fleet_verify.proofs.Words.{reverse, ActionId, IsAction, IsCriticalCost, IsLatest, IsWayTo, first_of, path_actions}
use Rattle.fleet_verify.proofs.times.Times.critical_path.Given as goal

abbrev pub invariant-loop-before : goal.invariant-loop-before
invariant-loop-before g l =
    let p = g.P.ProgramView.program l.self.program in
    let cost = g.C.ActionCosts.cost l.self.costs in
    record {
      action : IsAction p (first_of l.way.0);
      critical : IsCriticalCost p cost (first_of l.way.0) l.way.1;
      way : (last : ActionId) × IsLatest p cost last × IsCriticalCost p cost last l.total × IsWayTo p cost last l.total (path_actions (reverse l.path.items)) (first_of l.way.0) l.way.1;
    }

abbrev pub decreases-loop-before : goal.decreases-loop-before
decreases-loop-before g l = l.way.1
