use Rattle.fleet_dispatch.proofs.Cited.{◌∙◌, ap, subst, replicate, Err, Course, left_in, Replays, IsReplayed}
use Rattle.fleet_dispatch.proofs.Replaying.{replayed_counts, begins_so, led_or_stopped, led_err, went_on}
use Rattle.fleet_dispatch.proofs.replay.lead_on.Goals as goal

pub start_session-requires-2 : goal.start_session-requires-2
start_session-requires-2 g c =
    let p = g.P.ProgramView.program c.args.program.now in
    let none = c.deref.ensures.value ∙ c.in-Ok.ensures ∙ ap (λ n. replicate n 0) c.agents.ensures.count in
    let begins = begins_so p c.args.pace c.in-Ok-start_session.past _ none c.in-Ok-start_session.ensures in
    let counts = replayed_counts p c.args.pace c.args.log.now (left_in c.replay.new.session) (subst (λ (d : Course). IsReplayed d c.args.log.now (left_in c.replay.new.session)) begins c.in_ok-replay.ensures) in
    record { counts = rw c.done.ensures counts }

pub returns-in_err-replay : goal.returns-in_err-replay
returns-in_err-replay g c =
    let p = g.P.ProgramView.program c.args.program.now in
    let none = c.deref.ensures.value ∙ c.in-Ok.ensures ∙ ap (λ n. replicate n 0) c.agents.ensures.count in
    let begins = begins_so p c.args.pace c.in-Ok-start_session.past _ none c.in-Ok-start_session.ensures in
    let e = c.in_err-replay.field-0.0 in
    led_err p c.args.pace c.args.log.now c.from_residual.result e c.from_residual.ensures.1
    (led_or_stopped p c.args.pace c.args.log.now (left_in c.replay.new.session) e (subst (λ (d : Course). Replays {T = Unit {0}} d c.args.log.now (left_in c.replay.new.session) (Err e)) begins c.in_err-replay.ensures))

pub returns : goal.returns
returns g c =
    let p = g.P.ProgramView.program c.args.program.now in
    let none = c.deref.ensures.value ∙ c.in-Ok.ensures ∙ ap (λ n. replicate n 0) c.agents.ensures.count in
    let begins = begins_so p c.args.pace c.in-Ok-start_session.past _ none c.in-Ok-start_session.ensures in
    went_on p c.args.pace c.args.log.now c.replay.new.session c.done.result.now c.taken.result c.in-Ok-start_session-2.session c.agents.ensures.well_formed c.done.ensures c.taken.ensures c.in-Ok-start_session-2.ensures
    (subst (λ (d : Course). IsReplayed d c.args.log.now (left_in c.replay.new.session)) begins c.in_ok-replay.ensures)
