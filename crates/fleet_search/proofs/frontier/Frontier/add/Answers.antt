use Rattle.fleet_search.proofs.Words.{◌≡◌, length, Contains, ap, ◌∙◌, subst, arith, length_push, lists_of, Exploration, IsAdded}
use Rattle.fleet_search.specs.Rows.{IsPut}
use Rattle.fleet_search.proofs.Explored.{put-places}
use Rattle.fleet_search.proofs.frontier.Frontier.add.Goals as goal

pub invariant_of-self : goal.invariant_of-self
invariant_of-self c = λ k i h.
    let within = c.self.invariant k i h in
    let same = ap length c.in_err-push.ensures.items in
    omega arith

pub invariant_of-self-in_err-note : goal.invariant_of-self-in_err-note
invariant_of-self-in_err-note c = λ k i h.
    let within = c.self.invariant k i h in
    let more = ap length c.in_ok-push.ensures.items ∙ length_push c.self.inside.nodes.items c.args.node in
    omega arith

pub invariant_of-self-in_err-put_in_row : goal.invariant_of-self-in_err-put_in_row
invariant_of-self-in_err-put_in_row c = λ k i h.
    let within = c.self.invariant k i (subst (λ z. Contains z i) (c.in_err-put_in_row.ensures.err k) h) in
    let more = ap length c.in_ok-push.ensures.items ∙ length_push c.self.inside.nodes.items c.args.node in
    omega arith

pub invariant_of-self-2 : goal.invariant_of-self-2
invariant_of-self-2 c =
    let f = c.self.inside in
    let place : c.len-place.result ≡ length f.nodes.items = omega (arith, c.len-place.ensures, f.nodes.ok.0) in
    let put = subst (IsPut (lists_of f.open_list.items) (lists_of c.put_in_row.new.rows.items) c.args.bucket) place c.in_ok-put_in_row.ensures.ok in
    put-places f.nodes.items c.push.new.self.items (lists_of f.open_list.items) (lists_of c.put_in_row.new.rows.items) c.args.bucket c.self.invariant (ap length c.in_ok-push.ensures.items ∙ length_push f.nodes.items c.args.node) put

pub returns : goal.returns
returns c =
    let f = c.self.inside in
    let place : c.len-place.result ≡ length f.nodes.items = omega (arith, c.len-place.ensures, f.nodes.ok.0) in
    let new : Exploration = record { nodes = c.push.new.self.items; labels = c.note.new.self; open_list = lists_of c.put_in_row.new.rows.items } in
    subst (λ z. IsAdded z new c.args.node c.args.cell c.args.interval c.args.bucket) c.self.view_is (record {
      places = c.self.invariant;
      nodes = c.in_ok-push.ensures.items;
      labels = c.in_ok-note.ensures;
      open_list = subst (IsPut (lists_of f.open_list.items) (lists_of c.put_in_row.new.rows.items) c.args.bucket) place c.in_ok-put_in_row.ensures.ok;
    })
