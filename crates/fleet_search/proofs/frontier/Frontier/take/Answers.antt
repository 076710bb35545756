use Rattle.fleet_search.proofs.Words.{IfSome, subst, lists_of, Exploration, IsNodeTaken}
use Rattle.fleet_search.proofs.Explored.{taken-places, is_taken}
use Rattle.fleet_search.proofs.frontier.Frontier.take.Goals as goal

pub invariant_of-self : goal.invariant_of-self
invariant_of-self c =
    taken-places c.self.inside.nodes.items (lists_of c.self.inside.open_list.items) (lists_of c.take_from_row.new.rows.items) c.args.bucket c.take_from_row.result c.self.invariant c.take_from_row.ensures.some c.take_from_row.ensures.none c.take_from_row.ensures.others

pub returns-clause-some : goal.returns-clause-some
returns-clause-some c =
    let f = c.self.inside in
    let new = lists_of c.take_from_row.new.rows.items in
    let old : Exploration = record { nodes = f.nodes.items; labels = f.labels; open_list = lists_of f.open_list.items } in
    subst (λ z. IfSome c.take_from_row.result (IsNodeTaken z (record old { open_list = new }) c.args.bucket)) c.self.view_is (is_taken old new c.args.bucket c.take_from_row.result c.self.invariant c.take_from_row.ensures.some c.take_from_row.ensures.others)
