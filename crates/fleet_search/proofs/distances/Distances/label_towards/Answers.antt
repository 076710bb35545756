use Rattle.fleet_search.proofs.Words.{◌+◌, ◌<◌, ℕ, length, get_or, sym, subst, cell_index, no_label, with_label, IsOnGround, IsLabelNear, IsPutFrom}
use Rattle.fleet_search.specs.Distance.{IsLabelled}
use Rattle.fleet_search.proofs.Occupants.{yes_from_true, no_from_false}
use Rattle.fleet_search.proofs.Spread.{near_before, not-near, put_towards, none_towards}
use Rattle.fleet_search.proofs.distances.Distances.label_towards.Goals as goal

pub returns-then-is_near-clause-labelled : goal.returns-then-is_near-clause-labelled
returns-then-is_near-clause-labelled c =
    let s = c.args.self.now in
    let near = yes_from_true c.is_near.result c.if-is_near.true c.is_near.ensures in
    let here : IsLabelNear s.search (get_or s.labels (cell_index s.grid c.in-Some.beside) no_label) (c.args.distance + 1) = subst (λ n. IsLabelNear s.search (get_or s.labels n no_label) (c.args.distance + 1)) c.place-place.ensures.value near in
    none_towards s c.args.left c.args.distance c.args.dir c.requires.left (near_before s c.args.distance c.args.left c.in-Some.beside here c.args.dir c.in-Some.ensures.some.0)

pub returns-clause-labelled : goal.returns-clause-labelled
returns-clause-labelled c =
    let s = c.args.self.now in
    let b = c.in-Some.beside in
    let d = c.args.distance in
    let at = c.place-place.ensures.value in
    let on = subst (λ g. IsOnGround g b) c.grid.ensures c.in-Some.ensures.some.1 in
    let within : cell_index s.grid b < length s.labels = subst (λ n. n < length s.labels) at c.place-place.ensures.within in
    let more : (n : ℕ) → IsLabelled s b n → d + 1 < n = not-near s.grid s.labels s.search d b (λ h. no_from_false c.is_near.result c.if-is_near.false c.is_near.ensures (subst (λ n. IsLabelNear s.search (get_or s.labels n no_label) (d + 1)) (sym at) h)) in
    let put = subst (λ n. IsPutFrom c.args.left b (with_label s n (d + 1)) c.put.new.self) at (subst (λ t. IsPutFrom c.args.left b t c.put.new.self) c.set_label.ensures c.in_ok-put.ensures.put) in
    put_towards s c.put.new.self c.args.left c.requires.left.spread c.place-place.ensures.sizes d c.requires.few c.requires.left.on_ground c.requires.left.labelled c.requires.left.over b (c.args.dir, c.in-Some.ensures.some.0) on within more put c.args.dir c.in-Some.ensures.some.0
