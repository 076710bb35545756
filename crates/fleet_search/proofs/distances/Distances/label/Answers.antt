use Rattle.fleet_search.proofs.Words.{arith, sym, ap, ◌∙◌, DistanceTable}
use Rattle.fleet_search.proofs.Spread.{label_read, label_of_search-same, label_of_search-other}
use Rattle.fleet_search.proofs.distances.Distances.label.Goals as goal

pub returns-then-is_current : goal.returns-then-is_current
returns-then-is_current c =
    let s = c.args.self.now in
    let l = c.label_at-label.result in
    let search = ap (λ (t : DistanceTable). t.search) c.self.view_is in
    sym (label_of_search-same s.search l (omega (arith, search, c.if-is_current.true))) ∙ label_read s c.args.cell c.place.result l c.place.ensures.value c.label_at-label.ensures

pub returns-else-is_current : goal.returns-else-is_current
returns-else-is_current c =
    let s = c.args.self.now in
    let l = c.label_at-label.result in
    let search = ap (λ (t : DistanceTable). t.search) c.self.view_is in
    sym (label_of_search-other s.search l (λ e. absurd (omega (arith, e, search, c.if-is_current.false)))) ∙ label_read s c.args.cell c.place.result l c.place.ensures.value c.label_at-label.ensures
