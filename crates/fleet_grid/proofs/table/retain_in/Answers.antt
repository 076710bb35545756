use Rattle.std.proofs.Common.{◌≡◌, length, sym, ap, ◌∙◌, refl, arith}
use Rattle.std.specs.Prelude.{Vec, filter}
use Rattle.std.specs.declared.alloc.Global.{Global}
use Rattle.std.proofs.lemmas.Fn.{filter_same}
use Rattle.std.proofs.lemmas.List.{with_items_is}
use Rattle.fleet_grid.specs.Table.{items_at}
use Rattle.fleet_grid.proofs.ListLaws.{changed-more, changed-all}
use Rattle.fleet_grid.proofs.table.retain_in.Goals as goal

pub loop-list-preserved : goal.loop-list-preserved
loop-list-preserved g c = λ test h.
    changed-more (filter test) c.deref_mut-list-items.result.now c.loop-list.list-items c.loop-list.list-index c.list-item.result c.retain.new.self (c.loop-list.invariant test h) (omega (arith, c.loop-list.auto.list-items)) c.list-item.is (filter_same _ test _ (λ x b f' k. (h x b (record { shown = k.shown; shows = k.shows; says = record { met = k.called.met.0 } }), k.called.met.1)) _ c.retain.new.self.items c.retain.ensures.filtered ∙ ap (λ (z : Vec g.row.V.Denot Global). filter test z.items) (sym c.list-item.is))

pub returns-clause-kept : goal.returns-clause-kept
returns-clause-kept g c = λ test h k.
    let row = c.args.lists.now in
    let now = c.loop-list.list-items in
    let n : length now ≡ row.len = omega (arith, c.loop-list.auto.list-items, ap length c.deref_mut-list-items.ensures.value, row.ok.0) in
    ap (λ z. items_at z k) (with_items_is row now n) ∙ changed-all (filter test) c.deref_mut-list-items.result.now now c.loop-list.list-index (c.loop-list.invariant test h) (omega (arith, c.loop-list.auto.list-items)) refl k ∙ ap (λ z. filter test (items_at z k)) c.deref_mut-list-items.ensures.value

pub loop-list-init : goal.loop-list-init
loop-list-init g c = λ test h. record { done = λ k m. absurd (omega arith); left = λ k m. refl }

pub returns-clause-len : goal.returns-clause-len
returns-clause-len g c =
    let row = c.args.lists.now in
    let now = c.loop-list.list-items in
    let n : length now ≡ row.len = omega (arith, c.loop-list.auto.list-items, ap length c.deref_mut-list-items.ensures.value, row.ok.0) in
    rw (with_items_is row now n) (omega (arith, row.ok.0))
