use Rattle.fleet_dispatch.proofs.Cited.{◌≡◌, ℕ, List, [], get_or, set, unwrap_or, sym, ap, ◌∙◌, Vec, with_item, Global, map-set, get_or-map, lists_of}
use Rattle.fleet_dispatch.proofs.costs.note.Goals as goal

pub returns : goal.returns
returns c =
    let rows = c.args.rows.now.items in
    let a = c.args.said.whose.agent in
    let row = c.index_mut.result.now in
    let cost = c.args.said.cost in
    let n : c.unwrap_or-number.result ≡ unwrap_or c.args.said.whose.number 0 = c.unwrap_or-number.ensures in
    let here : get_or (lists_of rows) a [] ≡ row.items = get_or-map (λ (v : Vec ℕ Global). v.items) rows a row [] c.requires.agent ∙ ap (λ (v : Vec ℕ Global). v.items) (sym c.index_mut.ensures.value) in
    map-set (λ (v : Vec ℕ Global). v.items) rows a (with_item row c.unwrap_or-number.result cost)
    ∙ ap (λ (r : List ℕ). set (lists_of rows) a r) (ap (λ (xs : List ℕ). set xs c.unwrap_or-number.result cost) (sym here) ∙ ap (λ (k : ℕ). set (get_or (lists_of rows) a []) k cost) n)
