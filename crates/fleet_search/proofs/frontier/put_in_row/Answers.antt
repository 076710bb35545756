use Rattle.fleet_search.proofs.Words.{◌∙◌, err_from_is_err_and}
use Rattle.fleet_search.proofs.RowLaws.{is_put, row-kept}
use Rattle.fleet_search.proofs.frontier.put_in_row.Goals as goal

pub returns-in_err-extend_to-clause-err : goal.returns-in_err-extend_to-clause-err
returns-in_err-extend_to-clause-err c =
    let p = err_from_is_err_and c.from_residual.result c.from_residual.ensures.1 in
    rw p.1 c.extend_to.ensures.same

pub returns-clause-ok : goal.returns-clause-ok
returns-clause-ok c = is_put c.args.rows.now.items c.extend_to.new.pages.items c.args.key c.args.number c.index_mut.result.now c.push.new.self c.extend_to.ensures.same c.in_ok-extend_to.ensures.room c.index_mut.ensures.value c.in_ok-push.ensures.items

pub returns-in_err-push-clause-err : goal.returns-in_err-push-clause-err
returns-in_err-push-clause-err c =
    let p = err_from_is_err_and c.from_residual-in_err-push.result c.from_residual-in_err-push.ensures.1 in
    rw p.1 (λ k. row-kept c.extend_to.new.pages.items c.args.key c.index_mut.result.now c.push.new.self c.in_ok-extend_to.ensures.room c.index_mut.ensures.value c.in_err-push.ensures.items k ∙ c.extend_to.ensures.same k)
