use Rattle.fleet_verify.proofs.Words.{◌≡◌, [], ◌∷◌, ◌++◌, map, ap, ◌∙◌, arith, map_push, held_row}
use Rattle.fleet_verify.proofs.BreakingHolds.{meeting_start, meeting_arrived, meeting_last, meeting_step}
use Rattle.fleet_verify.proofs.breaking.holds_by.Goals as goal

pub loop-t-init : goal.loop-t-init
loop-t-init g c =
    let s = meeting_start (g.P.ProgramView.program c.args.program.now) c.args.v c.args.w _ (ap (map (λ row. row.items)) c.new-holds.ensures.items) c.args.machine.now.configuration c.requires.start.opening in
    record { begun = s.0; runs = c.requires.start.runs; here = s.1; ticks = s.2 }

pub loop-t-preserved : goal.loop-t-preserved
loop-t-preserved g c =
    let p = g.P.ProgramView.program c.args.program.now in
    let old = c.loop-t.invariant in
    let held = held_row p c.loop-t.machine.configuration c.args.needed.now in
    let e : map (λ row. row.items) c.push.new.self.items ≡ map (λ row. row.items) c.loop-t.holds.items ++ held ∷ [] =
    ap (map (λ row. row.items)) c.in_ok-push.ensures.items ∙ map_push (λ row. row.items) c.loop-t.holds.items c.in_ok-row.row ∙ ap (λ r. map (λ row. row.items) c.loop-t.holds.items ++ r ∷ []) c.in_ok-row.ensures.row in
    let s = meeting_step p c.args.v c.args.w c.args.needed.now c.requires.visits.first c.requires.visits.second c.requires.needed.needed (map (λ row. row.items) c.loop-t.holds.items) old.begun
    c.loop-t.machine.configuration c.run_tick.new.machine.configuration old.here (λ h. let t = c.have_arrived.ensures.1 h in let f = c.if-have_arrived.false in (let x : ⊥ = cc in x)) c.in_ok-row.ensures.after
    (map (λ row. row.items) c.push.new.self.items) e in
    record { begun = s.0; runs = c.in_ok-row.ensures.runs; here = s.1; ticks = omega (arith, s.2, old.ticks) }

pub returns-then-have_arrived : goal.returns-then-have_arrived
returns-then-have_arrived g c =
    meeting_arrived (g.P.ProgramView.program c.args.program.now) c.args.v c.args.w c.requires.visits.first c.requires.visits.second (map (λ row. row.items) c.loop-t.holds.items) c.loop-t.invariant.begun
    c.loop-t.machine.configuration c.loop-t.invariant.here (c.have_arrived.ensures.0 c.if-have_arrived.true)

pub returns : goal.returns
returns g c =
    let a = c.loop-t.invariant.ticks in
    meeting_last (g.P.ProgramView.program c.args.program.now) c.args.v c.args.w c.requires.numbering c.requires.range (map (λ row. row.items) c.loop-t.holds.items) c.loop-t.invariant.begun (omega (arith, c.total_moves-t-end.ensures))
