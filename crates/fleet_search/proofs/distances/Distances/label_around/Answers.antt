use Rattle.std.proofs.Common.{arith, sym, ◌∙◌}
use Rattle.fleet_search.proofs.Spread.{spread-left}
use Rattle.fleet_search.proofs.distances.Distances.label_around.Goals as goal

pub returns-clause-spread : goal.returns-clause-spread
returns-clause-spread c =
    let n = c.in_ok-label_towards.ensures.labelled in
    let e = c.in_ok-label_towards-2.ensures.labelled in
    let s = c.in_ok-label_towards-3.ensures.labelled in
    let w = c.in_ok-label_towards-4.ensures.labelled in
    let g3 = sym c.label_towards-4.ensures.same.grid in
    let g2 = sym c.label_towards-3.ensures.same.grid ∙ g3 in
    let g1 = sym c.label_towards-2.ensures.same.grid ∙ g2 in
    record {
      spread = spread-left c.label_towards.new.self c.label_towards-2.new.self c.label_towards-3.new.self c.label_towards-4.new.self c.args.distance c.args.left w.left_on_bound g1 g2 g3 n.found e.found s.found w.found e.fall s.fall w.fall;
      work = omega (arith, n.work, e.work, s.work, w.work);
    }
