use Rattle.fleet_run.proofs.Words.{◌≡◌, ap, sym, ◌∙◌, is_passable, is_finished}
use Rattle.fleet_run.proofs.Progress.{on_goals}
use Rattle.fleet_run.proofs.fleet.Fleet.finished.Goals as goal

pub returns-clause-arrived : goal.returns-clause-arrived
returns-clause-arrived g c =
    let running = c.self.invariant in
    let parts = c.self.inside.accepted in
    let p = g.P.ProgramView.program parts.program in
    let here = c.self.inside.machine.configuration in
    let way = running.reached in
    let passable = is_passable parts.grid in
    let accepted = running.accepted_for.accepted in
    let finish = c.runs_arrive.ensures.finish passable parts.instance p accepted way.holds in
    let arrives = c.runs_arrive.ensures.arrive passable parts.instance p accepted way.holds parts.chain finish.0 running.accepted_for.longest finish.1 in
    let told : c.is_finished.result ≡ is_finished p here =
    c.is_finished.ensures ∙ ap (λ q. is_finished (g.P.ProgramView.program q) here) c.program.ensures.program in
    rw (← c.self.view_is) (λ over. on_goals p way.holds parts.chain finish.0 way.ticks here finish.1 arrives way.same (sym told ∙ over))
