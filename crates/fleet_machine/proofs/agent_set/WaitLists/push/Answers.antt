use Rattle.std.proofs.Common.{◌≡◌, ◌<◌, None, ◌∙◌, ap, length, get_or, sym}
use Rattle.std.proofs.lemmas.List.{get_or_default}
use Rattle.fleet_machine.specs.WaitLists.{home_of}
use Rattle.fleet_machine.proofs.Linked.{chains_with}
use Rattle.fleet_machine.proofs.agent_set.WaitLists.push.Goals as goal

pub invariant_of-self : goal.invariant_of-self
invariant_of-self c =
    let first = c.self.inside.first.items in
    let within : c.args.list < length first = rw (sym c.self.view_is) at c.requires.list in
    let there : c.args.i < length c.self.inside.home.items = rw (sym c.self.view_is) at c.requires.agent in
    let nowhere : home_of c.self.inside.home.items c.args.i ≡ None = rw (sym c.self.view_is) at c.requires.nowhere in
    let read : c.index.result.now ≡ get_or first c.args.list None = c.index.ensures ∙ ap (λ k. get_or first k c.index.result.now) c.from.ensures ∙ get_or_default first c.args.list c.index.result.now None within in
    rw (c.from-2.ensures, c.from-3.ensures, c.from-4.ensures, read) (chains_with c.self.invariant c.args.list within c.args.i there nowhere)
