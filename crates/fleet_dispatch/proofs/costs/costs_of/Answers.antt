use Rattle.fleet_dispatch.proofs.Cited.{sym, subst, err_from_is_err_and, AreRowsOf, lists_of}
use Rattle.fleet_dispatch.proofs.CostLemmas.{none_are_rows, all_said, not_said}
use Rattle.fleet_dispatch.proofs.costs.costs_of.Goals as goal

pub note_lines-requires-clause-rows : goal.note_lines-requires-clause-rows
note_lines-requires-clause-rows g c =
    let p = g.P.ProgramView.program c.args.program.now in
    subst (AreRowsOf p) (sym c.in-Ok.ensures) (none_are_rows p)

pub returns-in_err-note_lines-clause-fault : goal.returns-in_err-note_lines-clause-fault
returns-in_err-note_lines-clause-fault g c =
    let p = g.P.ProgramView.program c.args.program.now in
    let e = err_from_is_err_and c.from_residual.result c.from_residual.ensures.1 in
    rw (e.1, e.2) (not_said p c.args.text.now c.in_err-note_lines.field-0.0 (rw (c.in-Ok.ensures, c.new-lines.ensures.lines) at c.in_err-note_lines.ensures))

pub invariant_of-result : goal.invariant_of-result
invariant_of-result g c =
    let p = g.P.ProgramView.program c.args.program.now in
    (all_said p c.args.text.now (lists_of c.note_lines.new.rows.items) (rw (c.in-Ok.ensures, c.new-lines.ensures.lines) at c.in_ok-note_lines.ensures)).0

pub returns-clause-costs : goal.returns-clause-costs
returns-clause-costs g c =
    let p = g.P.ProgramView.program c.args.program.now in
    (all_said p c.args.text.now (lists_of c.note_lines.new.rows.items) (rw (c.in-Ok.ensures, c.new-lines.ensures.lines) at c.in_ok-note_lines.ensures)).1
