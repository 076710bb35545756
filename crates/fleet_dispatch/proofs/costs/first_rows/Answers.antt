use Rattle.fleet_dispatch.proofs.Cited.{ℕ, ◌+◌, [], ◌∷◌, replicate, ap, ◌∙◌, Vec, Global, map-append, moves, lists_of}
use Rattle.fleet_dispatch.proofs.CostLemmas.{row_more}
use Rattle.fleet_dispatch.proofs.costs.first_rows.Goals as goal

pub loop-i-preserved : goal.loop-i-preserved
loop-i-preserved g c =
    let p = g.P.ProgramView.program c.args.program.now in
    let row = c.in_ok-first_row.field-0 in
    row_more (λ i. replicate (moves p i + 1) 0) c.loop-i.i (lists_of c.loop-i.rows.items) _ row.items c.loop-i.invariant
    (ap lists_of c.in_ok-push.ensures.items ∙ map-append (λ (v : Vec ℕ Global). v.items) c.loop-i.rows.items (row ∷ []))
    (c.in_ok-first_row.ensures ∙ ap (λ m. replicate (m + 1) 0) c.moves.ensures)
