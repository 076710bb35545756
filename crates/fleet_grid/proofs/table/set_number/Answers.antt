use Rattle.std.proofs.lemmas.Result.{err_from_is_err_and, on_ok_weaker, on_err_weaker}
use Rattle.fleet_grid.proofs.ListLaws.{same-numbers, numbered, numbers-kept}
use Rattle.fleet_grid.proofs.table.set_number.Goals as goal

pub returns-in_err-extend_to-clause-err : goal.returns-in_err-extend_to-clause-err
returns-in_err-extend_to-clause-err c =
    let p = err_from_is_err_and c.from_residual.result c.from_residual.ensures.1 in
    rw p.1 (same-numbers c.args.numbers.now.items c.extend_to.new.pages.items c.extend_to.ensures.same)

pub returns-clause-ok : goal.returns-clause-ok
returns-clause-ok c = on_ok_weaker c.set_in.result (λ here. numbered c.args.numbers.now.items c.extend_to.new.pages.items c.args.key c.index_mut.result.now c.set_in.new.row c.extend_to.ensures.same c.in_ok-extend_to.ensures.room c.index_mut.ensures.value c.args.number here c.set_in.ensures.others) c.set_in.ensures.here

pub returns-clause-err : goal.returns-clause-err
returns-clause-err c = on_err_weaker c.set_in.result (numbers-kept c.args.numbers.now.items c.extend_to.new.pages.items c.args.key c.index_mut.result.now c.set_in.new.row c.extend_to.ensures.same c.in_ok-extend_to.ensures.room c.index_mut.ensures.value) c.set_in.ensures.err
