use Rattle.fleet_verify.proofs.Words.{refl, ap, sym, subst, IsCriticalCost, IsPathOfCost, IsCriticalPath, LeadsBack, first_of, stretch_actions, path_actions}
use Rattle.fleet_verify.proofs.CriticalPaths.{arrived_none, way_action, way_falls, way_first, way_join, way_ends, path_before}
use Rattle.fleet_verify.proofs.times.Times.critical_path.Goals as goal

pub returns-in_default : goal.returns-in_default
returns-in_default g c =
    let p = g.P.ProgramView.program c.args.self.now.program in
    let cost = g.C.ActionCosts.cost c.args.self.now.costs in
    record { total = 0; arrival = arrived_none p cost c.in_default.ensures.none; path_of_cost = subst (IsPathOfCost p cost 0) (sym (ap path_actions c.new-path.ensures.items)) refl }

pub loop-before-init : goal.loop-before-init
loop-before-init g c =
    let p = g.P.ProgramView.program c.args.self.now.program in
    let cost = g.C.ActionCosts.cost c.args.self.now.costs in
    let last = c.in-Some.last in
    let found = c.stretch_to-way.result in
    record {
      action = way_action p cost last c.end-total.result (stretch_actions found.0) (first_of found.0) found.1 c.stretch_to-way.ensures;
      critical = c.stretch_to-way.ensures.critical;
      way = (last, c.in-Some.ensures.some, c.end-total.ensures, way_first p cost last c.end-total.result found.0 (first_of found.0) found.1 c.stretch_to-way.ensures _ _ c.new-path.ensures.items c.in_ok-push.ensures.items);
    }

pub returns : goal.returns
returns g c =
    let p = g.P.ProgramView.program c.args.self.now.program in
    let cost = g.C.ActionCosts.cost c.args.self.now.costs in
    let way = c.loop-before.invariant.way in
    let alone = subst (λ x. IsCriticalCost p cost x (cost x)) c.first_action.ensures c.in_default-before.ensures.none in
    subst (λ xs. IsCriticalPath p cost (path_actions xs)) (sym c.reverse.ensures.items)
    (way_ends p cost way.0 c.end-total.result _ (first_of c.loop-before.way.0) c.loop-before.way.1 way.3 alone way.1 way.2)

pub loop-before-smaller : goal.loop-before-smaller
loop-before-smaller g c =
    let p = g.P.ProgramView.program c.args.self.now.program in
    let cost = g.C.ActionCosts.cost c.args.self.now.costs in
    let first = first_of c.loop-before.way.0 in
    let found = c.stretch_to-way-in-Some-before.result in
    let leads = subst (λ x. LeadsBack p cost x c.in-Some-before.before) c.first_action.ensures c.in-Some-before.ensures.some in
    way_falls p cost first c.in-Some-before.before c.loop-before.way.1 c.in-Some-before.time c.loop-before.invariant.critical leads c.in-Some-before.ensures.end (c.requires first)
    (stretch_actions found.0) (first_of found.0) found.1 c.stretch_to-way-in-Some-before.ensures

pub loop-before-preserved : goal.loop-before-preserved
loop-before-preserved g c =
    let p = g.P.ProgramView.program c.args.self.now.program in
    let cost = g.C.ActionCosts.cost c.args.self.now.costs in
    let way = c.loop-before.invariant.way in
    let found = c.stretch_to-way-in-Some-before.result in
    let leads = subst (λ x. LeadsBack p cost x c.in-Some-before.before) c.first_action.ensures c.in-Some-before.ensures.some in
    record {
      action = way_action p cost c.in-Some-before.before c.in-Some-before.time (stretch_actions found.0) (first_of found.0) found.1 c.stretch_to-way-in-Some-before.ensures;
      critical = c.stretch_to-way-in-Some-before.ensures.critical;
      way = (
        way.0,
        way.1,
        way.2,
        way_join p cost way.0 c.end-total.result _ (first_of c.loop-before.way.0) c.loop-before.way.1 way.3 c.in-Some-before.before leads c.in-Some-before.time c.in-Some-before.ensures.end
            (stretch_actions found.0) (first_of found.0) found.1 c.stretch_to-way-in-Some-before.ensures _ (path_before _ found.0 _ c.in_ok-push-2.ensures.items),
      );
    }

pub before-requires-clause-action : goal.before-requires-clause-action
before-requires-clause-action g c = rw c.first_action.ensures c.loop-before.invariant.action

pub before-requires-clause-end : goal.before-requires-clause-end
before-requires-clause-end g c = rw c.first_action.ensures c.loop-before.invariant.critical

pub stretch_to-way-requires-clause-action : goal.stretch_to-way-requires-clause-action
stretch_to-way-requires-clause-action g c = c.in-Some.ensures.some.action
