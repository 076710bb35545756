use Rattle.fleet_search.proofs.Words.{◌≡◌, length, inl, inr, ap, ◌∙◌, arith, cases_eq, cases_lt, with_items_is, set, items_at, items-past, items-set, items-other}
use Rattle.fleet_search.proofs.frontier.clear_rows.Goals as goal

pub loop-row-preserved : goal.loop-row-preserved
loop-row-preserved c = λ k h.
    let rows = c.loop-row.row-items in
    let i = c.loop-row.row-index in
    elim (cases_eq k i) [
      | inl e ↦ ap (items_at (set rows i c.clear.new.self)) e ∙ items-set rows i c.clear.new.self (omega (arith, c.loop-row.auto.row-items)) ∙ c.clear.ensures.items
      | inr ne ↦ items-other rows i k c.clear.new.self ne ∙ c.loop-row.invariant k (omega arith)
    ]

pub returns : goal.returns
returns c = λ k.
    let now = c.loop-row.row-items in
    let size : length now ≡ c.truncate.new.self.len = omega (arith, c.loop-row.auto.row-items, ap length c.deref_mut-row-items.ensures.value, c.truncate.new.self.ok.0) in
    ap (λ z. items_at z k) (with_items_is c.truncate.new.self now size) ∙ elim (cases_lt k (length now)) [
      | inl l ↦ c.loop-row.invariant k (omega (arith, c.loop-row.auto.row-items))
      | inr l ↦ items-past now k l
    ]
