use Rattle.std.proofs.Common.{◌≡◌, refl, sym, ap, ◌∙◌}
use Rattle.std.proofs.lemmas.Result.{err_from_is_err_and}
use Rattle.fleet_grid.specs.declared.table.Key.{Key}
use Rattle.fleet_grid.specs.Lists.{list_at, list_of}
use Rattle.fleet_grid.proofs.ListLaws.{list-by_key, exchanged-lent, exchanged}
use Rattle.fleet_grid.proofs.table.Lists.change.Goals as goal

pub returns-in_err-place-clause-err : goal.returns-in_err-place-clause-err
returns-in_err-place-clause-err g c =
    let i = c.self.inside in
    let p = err_from_is_err_and c.from_residual.result c.from_residual.ensures.1 in
    rw p.1 (λ k. list-by_key c.own.new.numbers.items c.own.new.lists.items k ∙ c.own.ensures.same k ∙ sym (list-by_key i.numbers.items i.lists.items k) ∙ ap (λ z. list_at z k) c.self.view_is)

pub change-requires : goal.change-requires
change-requires g c =
    let i = c.self.inside in
    let numbers = c.own.new.numbers.items in
    let lists = c.own.new.lists.items in
    let v = c.index_mut.result.now in
    let same = sym (exchanged-lent numbers lists c.own.ensures.own c.args.key c.in_ok-place.place v v c.in_ok-place.ensures.place c.in_ok-place.ensures.within c.index_mut.ensures.value) ∙ c.own.ensures.same c.args.key ∙ sym (list-by_key i.numbers.items i.lists.items c.args.key) ∙ ap (λ z. list_at z c.args.key) c.self.view_is in
    c.requires v same c.index_mut.result refl

pub returns-clause-ok : goal.returns-clause-ok
returns-clause-ok g c =
    let i = c.self.inside in
    let numbers = c.own.new.numbers.items in
    let lists = c.own.new.lists.items in
    let same : (k : Key) → list_of numbers lists k ≡ list_at c.args.self.now k = λ k. c.own.ensures.same k ∙ sym (list-by_key i.numbers.items i.lists.items k) ∙ ap (λ z. list_at z k) c.self.view_is in
    exchanged numbers lists c.own.ensures.own c.args.key c.in_ok-place.place c.index_mut.result.now c.change.new.arg2 c.in_ok-place.ensures.place c.in_ok-place.ensures.within c.index_mut.ensures.value _ c.args.self.now same (record { shown = _; shows = refl; left = _; met = c.change.ensures; leaves = refl })
