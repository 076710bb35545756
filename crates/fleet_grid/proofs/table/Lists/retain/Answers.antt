use Rattle.std.proofs.Common.{refl, sym, ap, ◌∙◌}
use Rattle.std.specs.Prelude.{filter}
use Rattle.fleet_grid.specs.Lists.{list_at, number_at}
use Rattle.fleet_grid.proofs.ListLaws.{list-by_key, numbered-changed}
use Rattle.fleet_grid.proofs.table.Lists.retain.Goals as goal

pub returns : goal.returns
returns g c = λ test h key.
    let i = c.self.inside in
    list-by_key i.numbers.items c.retain_in.new.lists.items key
    ∙ numbered-changed (filter test) i.lists.items c.retain_in.new.lists.items refl (c.retain_in.ensures.kept test h) (number_at i.numbers.items key)
    ∙ ap (filter test) (sym (list-by_key i.numbers.items i.lists.items key) ∙ ap (λ z. list_at z key) c.self.view_is)
