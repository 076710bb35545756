use Rattle.fleet_dispatch.proofs.Cited.{◌∙◌, sym, subst, refl, home_of, ProgressState, LeadsBut, is_woken}
use Rattle.fleet_dispatch.proofs.Steps.{some_woken, rows_woken, same_woken, fewer_stand, nobody_waits, some_home, no_home, waits_settled, looked_settled}
use Rattle.fleet_dispatch.proofs.progress.Progress.wake.Goals as goal

pub woken-preserved : goal.woken-preserved
woken-preserved g c =
    let p = g.P.ProgramView.program c.args.program.now in
    let s = c.woken.self in
    let s' = c.wake_first.new.self in
    record {
      same = same_woken p c.args.i s s' c.args.self.now c.wake_first.result c.woken-test.ensures c.wake_first.ensures.some c.woken.invariant.same;
      rows = rows_woken p c.args.i s s' c.wake_first.result c.woken-test.ensures c.wake_first.ensures.some c.woken.invariant.rows;
      leads = λ k before. some_woken p c.args.i s s' k c.wake_first.result c.woken-test.ensures c.wake_first.ensures.some (c.woken.invariant.leads k before);
    }

pub woken-smaller : goal.woken-smaller
woken-smaller g c =
    let p = g.P.ProgramView.program c.args.program.now in
    fewer_stand p c.args.i c.woken.self c.wake_first.new.self c.wake_first.result c.woken-test.ensures c.wake_first.ensures.some

pub returns-then-is_waiting-clause-leads : goal.returns-then-is_waiting-clause-leads
returns-then-is_waiting-clause-leads g c = λ k before.
    let p = g.P.ProgramView.program c.args.program.now in
    let s = c.woken.self in
    let s' = c.wake_first.new.self in
    let end = nobody_waits p c.args.i s s' c.wake_first.result c.woken-test.ensures c.wake_first.ensures.none c.wake_first.ensures.same in
    let leads = subst (λ (x : ProgressState). LeadsBut (is_woken x.waiting.homes c.args.i) p k x) (sym end.1) (c.woken.invariant.leads k before) in
    let home = some_home (home_of s'.waiting.homes c.args.i) (sym c.is_waiting-is_waiting.ensures ∙ c.if-is_waiting.true) in
    waits_settled p k c.args.i s' s' leads end.0 home.0 home.1 refl

pub returns-clause-leads : goal.returns-clause-leads
returns-clause-leads g c = λ k before.
    let p = g.P.ProgramView.program c.args.program.now in
    let s = c.woken.self in
    let s' = c.wake_first.new.self in
    let end = nobody_waits p c.args.i s s' c.wake_first.result c.woken-test.ensures c.wake_first.ensures.none c.wake_first.ensures.same in
    let leads = subst (λ (x : ProgressState). LeadsBut (is_woken x.waiting.homes c.args.i) p k x) (sym end.1) (c.woken.invariant.leads k before) in
    looked_settled p k c.args.i s' c.set_due.new.self leads end.0 c.requires.agent (no_home (home_of s'.waiting.homes c.args.i) (sym c.is_waiting-is_waiting.ensures ∙ c.if-is_waiting.false)) c.set_due.ensures
