use Rattle.fleet_dispatch.proofs.Cited.{◌++◌, ◌∙◌, append-nil, ap, arith, ℕ, List, drop_all, codes, place_text, name_text, order_text}
use Rattle.fleet_dispatch.proofs.Written.{five_joined}
use Rattle.fleet_dispatch.proofs.orders.write_order.Goals as goal

pub returns-clause-written : goal.returns-clause-written
returns-clause-written c =
    let o = c.args.order in
    let none = drop_all 73 c.args.row.now (omega arith) in
    five_joined (codes "go ") (name_text c.args.form o.agent o.number) (place_text o.from) (place_text o.to) (codes "\n") _ _ _ _ _ _
    c.write_byte-at.ensures.written c.write_place-at.ensures.written c.write_place-at-2.ensures.written c.write_name-at.ensures.written c.write_bytes.ensures.written
    ∙ ap (λ (xs : List ℕ). order_text c.args.form o.agent o.number o.from o.to ++ xs) none ∙ append-nil _
