use Rattle.fleet_needs.proofs.Words.{◌≡◌, ℕ, length, subst, arith, awaits_of, made_row, next_action}
use Rattle.fleet_needs.proofs.RowsMade.{AreOwnTo, own_first, own_next, own_last, held, rows_kept, rows_more}
use Rattle.fleet_needs.proofs.join_pass.SlotRows.finish_row.Goals as goal

pub loop-k-init : goal.loop-k-init
loop-k-init g c =
    let m = c.args.self.now in
    record { rows = c.requires.rows; own = own_first (g.P.ProgramView.program c.args.program.now) m.columns (next_action m.schedule c.args.n) (made_row m.counts) c.requires.others }

pub loop-k-preserved : goal.loop-k-preserved
loop-k-preserved g c =
    let p = g.P.ProgramView.program c.args.program.now in
    let was = c.loop-k.invariant in
    let m = record c.args.self.now { counts = c.loop-k.counts } in
    let need = c.need.ensures in
    let raised = c.raise_own.ensures in
    record { rows = rows_kept p m c.args.n c.raise_own.new.counts raised.kept was.rows; own = own_next p m.columns (next_action m.schedule c.args.n) c.loop-k.k c.need.result.wait need.await (made_row m.counts) (made_row c.raise_own.new.counts) was.rows.schedule.made.own need.action raised.own raised.others was.own }

pub raise_own-requires-clause-hold : goal.raise_own-requires-clause-hold
raise_own-requires-clause-hold g c =
    let w = c.need.result.wait in
    held (g.P.ProgramView.program c.args.program.now) (record c.args.self.now { counts = c.loop-k.counts }) c.args.n c.loop-k.invariant.rows w.agent w.count c.need.ensures.action.agent c.need.ensures.action.last

pub raise_own-requires-clause-columns : goal.raise_own-requires-clause-columns
raise_own-requires-clause-columns g c = (let rows = c.loop-k.invariant.rows in record { within = λ j k is. omega (arith, rows.columns.within j k is, rows.width); apart = rows.columns.apart })

pub clear_own-requires-clause-columns : goal.clear_own-requires-clause-columns
clear_own-requires-clause-columns g c = (let rows = c.loop-k.invariant.rows in record { within = λ j k is. omega (arith, rows.columns.within j k is, rows.width); apart = rows.columns.apart })

pub returns-clause-made : goal.returns-clause-made
returns-clause-made g c =
    let p = g.P.ProgramView.program c.args.program.now in
    let was = c.loop-k.invariant in
    let m = record c.args.self.now { counts = c.clear_own.new.counts } in
    let a = next_action m.schedule c.args.n in
    let join = c.join_after-join.ensures in
    let cleared = c.clear_own.ensures in
    let whole : c.loop-k.k ≡ length (awaits_of p a.agent a.number) = omega (arith, c.loop-k-test.false, join.count, c.loop-k.auto.k-end) in
    let made = own_last p m.columns a (made_row c.loop-k.counts) (made_row m.counts) join.action (subst (λ (n : ℕ). AreOwnTo p m.columns a n (made_row c.loop-k.counts)) whole was.own) (rw join.of at cleared.own) (rw join.of at cleared.others) in
    record {
      rows = rows_more p m c.args.n c.place.result c.write.new.self (rows_kept p _ c.args.n c.clear_own.new.counts cleared.kept was.rows) c.place.ensures.is c.write.ensures made;
      next = c.requires.next;
      whole = rw c.write.ensures.same made;
    }
