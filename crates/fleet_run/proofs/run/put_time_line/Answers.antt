use Rattle.fleet_run.proofs.Words.{◌≡◌, ◌∙◌, ◌++◌, ◌-◌, ◌∷◌, ap, arith, drop, length, subst, decimal, length-drop, take_all, TakesAll, numerals_of, line_of}
use Rattle.fleet_run.proofs.Lines.{places_behind, timed}
use Rattle.fleet_run.proofs.run.put_time_line.Goals as goal

pub returns-clause-kept : goal.returns-clause-kept
returns-clause-kept g c =
    λ d kept.
    timed (numerals_of d) c.args.row.now c.write_time-at.new.row c.args.begins.now _ c.write_time-at.result kept (rw c.from.ensures at c.write_time-at.ensures.written) c.write_time-at.ensures.room (rw c.from.ensures at c.write_time-at.ensures.high)

pub returns-clause-taken : goal.returns-clause-taken
returns-clause-taken g c =
    λ d kept.
    let h = c.write_time-at in
    let line : drop h.result h.new.row ≡ line_of c.args.time d = rw c.from.ensures at h.ensures.written ∙ ap (λ l. decimal c.args.time ++ (58 ∷ l)) (places_behind d c.args.row.now c.args.begins.now kept) in
    let whole = take_all (length h.new.row - h.result) (drop h.result h.new.row) (omega (arith, length-drop h.result h.new.row)) ∙ line in
    subst (λ bytes. TakesAll (g.O.TraceOut.state c.args.out.now) (g.O.TraceOut.state c.put_all.new.out) c.put_all.result bytes) whole c.put_all.ensures
