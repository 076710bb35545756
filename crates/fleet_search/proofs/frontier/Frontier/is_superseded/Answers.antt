use Rattle.fleet_search.proofs.Words.{◌-◌, ◌<◌, sym, ap, subst, ◌∙◌, arith, place_of, is_passable, State, earliest_in, IsSeen}
use Rattle.fleet_search.proofs.SearchSteps.{superseded-seen, seen-superseded}
use Rattle.fleet_search.proofs.Spread.{on_map}
use Rattle.fleet_search.proofs.Chase.{none_iff}
use Rattle.fleet_search.proofs.frontier.Frontier.is_superseded.Goals as goal

pub cell_index-number-requires-clause-column : goal.cell_index-number-requires-clause-column
cell_index-number-requires-clause-column c =
    let q = c.args.query.now in
    let fr = c.requires.frontier in
    let left = c.requires.left in
    (subst (λ (z : State). (z.cell.x < q.grid.now.width)) left.here (on_map q.grid.now _ fr.measured.heuristic.ready.map (fr.sound c.args.place left.within).on_ground).0)

pub cell_index-number-requires-clause-row : goal.cell_index-number-requires-clause-row
cell_index-number-requires-clause-row c =
    let q = c.args.query.now in
    let fr = c.requires.frontier in
    let left = c.requires.left in
    (subst (λ (z : State). (z.cell.y < q.grid.now.height)) left.here (on_map q.grid.now _ fr.measured.heuristic.ready.map (fr.sound c.args.place left.within).on_ground).1)

pub returns-then-is_start : goal.returns-then-is_start
returns-then-is_start c = none_iff (λ s. absurd (let sooner = s.sooner in omega arith))

pub returns : goal.returns
returns c =
    let q = c.args.query.now in
    let s = c.args.self.now in
    let m = c.args.state in
    let fr = c.requires.frontier in
    let left = c.requires.left in
    let sound = fr.sound c.args.place left.within in
    let ground = ap (λ (z : State). is_passable q.grid.now (place_of z.cell)) (sym left.here) ∙ sound.on_ground in (
      λ seen.
          let there = subst (λ t. IsSeen (earliest_in s.labels c.cell_index-number.result c.args.interval) (t - 1)) c.from.ensures (c.is_reached.ensures.0 seen) in
          let here = subst (λ z. IsSeen (earliest_in s.labels z c.args.interval) (m.time - 1)) c.cell_index-number.ensures.value there in
          superseded-seen q (c.args.bucket - 1) _ s.nodes (earliest_in s.labels) s.open_list fr m c.args.interval ground here (omega arith) c.requires.inside,
      λ sooner.
          let here = seen-superseded q (c.args.bucket - 1) _ s.nodes (earliest_in s.labels) s.open_list fr m c.args.interval c.requires.inside sooner in
          c.is_reached.ensures.1 (subst (λ t. IsSeen (earliest_in s.labels c.cell_index-number.result c.args.interval) (t - 1)) (sym c.from.ensures) (subst (λ z. IsSeen (earliest_in s.labels z c.args.interval) (m.time - 1)) (sym c.cell_index-number.ensures.value) here)),
    )
