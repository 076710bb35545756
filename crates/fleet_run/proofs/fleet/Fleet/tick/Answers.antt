use Rattle.fleet_run.proofs.Words.{◌≡◌, ℕ, length, ◌∙◌, ap, ap₂, subst, arith, is_passable, IsSafeStep, Configuration, tick, moved_in, is_ready_held, FleetState, ready_in, awaiting_in, LooksAt, flag_of}
use Rattle.fleet_run.proofs.Progress.{rests, looks_at_none}
use Rattle.fleet_run.proofs.fleet.Fleet.tick.Goals as goal

pub returns-clause-safe : goal.returns-clause-safe
returns-clause-safe g c =
    let running = c.self.invariant in
    let parts = c.self.inside.accepted in
    let p = g.P.ProgramView.program parts.program in
    let passable = is_passable parts.grid in
    let held = flag_of c.args.held.now in
    let before = c.self.inside.machine.configuration in
    let after : c.tick.new.self.configuration ≡ tick p held before =
    c.tick.ensures.after ∙ ap (λ q. tick (g.P.ProgramView.program q) held before) c.program.ensures.program in
    let accepted = running.accepted_for.accepted in
    let step : IsSafeStep passable (length p) before (tick p held before) = c.ticks_are_safe.ensures.safe passable parts.instance p accepted before held running.reached in
    let here : IsSafeStep passable (length p) before c.tick.new.self.configuration = rw after step in
    rw (← c.self.view_is) here

pub returns-clause-rest : goal.returns-clause-rest
returns-clause-rest g c =
    let running = c.self.invariant in
    let parts = c.self.inside.accepted in
    let p = g.P.ProgramView.program parts.program in
    let held = flag_of c.args.held.now in
    let before = c.self.inside.machine.configuration in
    let same = c.program.ensures.program in
    let after : c.tick.new.self.configuration ≡ tick p held before = c.tick.ensures.after ∙ ap (λ q. tick (g.P.ProgramView.program q) held before) same in
    let moved : c.tick.result.moved ≡ moved_in p held before = c.tick.ensures.moved ∙ ap (λ q. moved_in (g.P.ProgramView.program q) held before) same in
    let ready_held : c.tick.result.ready_held ≡ is_ready_held p held before = c.tick.ensures.held ∙ ap (λ q. is_ready_held (g.P.ProgramView.program q) held before) same in
    let State : Configuration → ℕ → FleetState _ = λ c n. record { accepted = parts; configuration = c; looked = n } in
    let looked = subst (λ q. LooksAt (ready_in (g.P.ProgramView.program q) before) (awaiting_in (g.P.ProgramView.program q) held before) c.self.inside.machine.looked c.tick.new.self.looked) same c.tick.ensures.looked in
    rw (← c.self.view_is)
    (λ over.
    let calm = rests p held before running.runs.agents over in
    let none = looks_at_none p held before over in
    let kept : c.tick.new.self.looked ≡ c.self.inside.machine.looked = omega (arith, looked.kept, looked.most, none.0, none.1) in
    (ap₂ State (after ∙ calm.0) kept, moved ∙ calm.1, ready_held ∙ calm.2))
