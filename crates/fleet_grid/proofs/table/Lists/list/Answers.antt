use Rattle.std.proofs.Common.{◌≡◌, ◌+◌, ◌-◌, sym, ap, ◌∙◌, arith}
use Rattle.fleet_grid.specs.Lists.{list_at, number_at}
use Rattle.fleet_grid.proofs.ListLaws.{found-none, found}
use Rattle.fleet_grid.proofs.table.Lists.list.Goals as goal

pub returns-then-has_none : goal.returns-then-has_none
returns-then-has_none g c =
    let i = c.self.inside in
    let n = ap (λ z. number_at z c.args.key) (sym c.as_slice.ensures.value) ∙ sym c.number_at-number.ensures in
    sym (ap (λ z. list_at z c.args.key) (sym c.self.view_is) ∙ found-none i.numbers.items i.lists.items c.args.key (omega (arith, n, c.if-has_none.true)))

pub returns : goal.returns
returns g c =
    let i = c.self.inside in
    let number = c.number_at-number.result in
    let n : number_at i.numbers.items c.args.key ≡ number = ap (λ z. number_at z c.args.key) (sym c.as_slice.ensures.value) ∙ sym c.number_at-number.ensures in
    let few = c.self.invariant.few c.args.key in
    let one : number_at i.numbers.items c.args.key ≡ (number - 1) + 1 = omega (arith, n, c.if-has_none.false) in
    c.as_slice-2.ensures.value ∙ sym (ap (λ z. list_at z c.args.key) (sym c.self.view_is) ∙ found i.numbers.items i.lists.items c.args.key (number - 1) c.index.result.now one (omega (arith, n, few, c.if-has_none.false)) c.index.ensures)
