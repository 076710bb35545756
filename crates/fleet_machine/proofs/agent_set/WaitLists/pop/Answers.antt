use Rattle.std.proofs.Common.{◌≡◌, ◌<◌, Some, None, ◌∙◌, ap, length, get_or, sym}
use Rattle.std.proofs.lemmas.List.{get_or_default}
use Rattle.fleet_machine.proofs.Linked.{chains_without, first_in_chain}
use Rattle.fleet_machine.proofs.agent_set.WaitLists.pop.Goals as goal

pub invariant_of-self : goal.invariant_of-self
invariant_of-self c =
    let first = c.self.inside.first.items in
    let within : c.args.list < length first = rw (sym c.self.view_is) at c.requires in
    let read : c.index.result.now ≡ get_or first c.args.list None = c.index.ensures ∙ ap (λ k. get_or first k c.index.result.now) c.from.ensures ∙ get_or_default first c.args.list c.index.result.now None within in
    let found : get_or first c.args.list None ≡ Some c.in_ok-i.i = sym read ∙ c.in_ok-i.was in
    let linked : c.in_ok-i.i < length c.self.inside.next.items = rw (sym c.self.invariant.links) at (first_in_chain c.self.invariant c.args.list within c.in_ok-i.i found).0 in
    let after : c.index-2.result.now ≡ get_or c.self.inside.next.items c.in_ok-i.i None =
    c.index-2.ensures ∙ ap (λ k. get_or c.self.inside.next.items k c.index-2.result.now) c.from-2.ensures ∙ get_or_default c.self.inside.next.items c.in_ok-i.i c.index-2.result.now None linked in
    rw (c.from-3.ensures, c.from-4.ensures, after) (chains_without c.self.invariant c.args.list within c.in_ok-i.i found)
