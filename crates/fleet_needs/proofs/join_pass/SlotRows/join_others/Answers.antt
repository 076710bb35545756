use Rattle.fleet_needs.proofs.Words.{◌≡◌, ◌-◌, ℕ, length, subst, arith, slice_index, awaits_of, made_row, count_from, next_action}
use Rattle.fleet_needs.proofs.RowsMade.{AreOthersTo, counts_at, others_first, others_next, rows_kept}
use Rattle.fleet_needs.proofs.join_pass.SlotRows.join_others.Goals as goal

pub loop-k-init : goal.loop-k-init
loop-k-init g c =
    let p = g.P.ProgramView.program c.args.program.now in
    let m = c.args.self.now in
    let a = next_action m.schedule c.args.n in
    let join = c.join_after-join.ensures in
    let need = c.need-first.ensures in
    let w = c.need-first.result.wait in
    let base = count_from m.counts c.place-base.result in
    record {
      rows = rows_kept p m c.args.n c.read_joined.new.self c.read_joined.ensures.kept c.requires.rows;
      others = others_next p m.columns a 0 w need.await base (count_from m.counts c.place-other.result) (slice_index (made_row c.read_joined.new.self)) (counts_at p m c.args.n c.requires.rows c.need-first.result.row c.place-other.result need.row c.place-other.ensures.is w.agent w.count need.stands)
          (λ j k has. c.read_joined.ensures.counts k (let l = c.requires.rows.columns.within j k has in omega (arith, l, c.requires.rows.width)))
          (others_first p m.columns a base (counts_at p m c.args.n c.requires.rows c.join_after-join.result.base c.place-base.result join.base c.place-base.ensures.is a.agent (a.number - 1) join.stands));
    }

pub loop-k-preserved : goal.loop-k-preserved
loop-k-preserved g c =
    let p = g.P.ProgramView.program c.args.program.now in
    let was = c.loop-k.invariant in
    let m = record c.args.self.now { counts = c.loop-k.counts } in
    let need = c.need-need.ensures in
    let w = c.need-need.result.wait in
    record {
      rows = rows_kept p m c.args.n c.join.new.self c.join.ensures.kept was.rows;
      others = others_next p m.columns (next_action m.schedule c.args.n) c.loop-k.k w need.await (slice_index (made_row m.counts)) (count_from m.counts c.place.result) (slice_index (made_row c.join.new.self))
          (counts_at p m c.args.n was.rows c.need-need.result.row c.place.result need.row c.place.ensures.is w.agent w.count need.stands)
          (λ j k has. c.join.ensures.counts k (let l = was.rows.columns.within j k has in omega (arith, l, was.rows.width))) was.others;
    }

pub returns-clause-joined : goal.returns-clause-joined
returns-clause-joined g c =
    let p = g.P.ProgramView.program c.args.program.now in
    let m = c.args.self.now in
    let a = next_action m.schedule c.args.n in
    let join = c.join_after-join.ensures in
    let whole : c.loop-k.k ≡ length (awaits_of p a.agent a.number) = omega (arith, c.loop-k-test.false, join.count, join.some, c.loop-k.auto.k-end) in
    record { rows = c.loop-k.invariant.rows; next = c.requires.next; others = subst (λ (n : ℕ). AreOthersTo p m.columns a n (slice_index (made_row c.loop-k.counts))) whole c.loop-k.invariant.others }
