use Rattle.fleet_verify.proofs.Words.{inl, inr, ActionId, IsNeedUntil, IsOwnUntil}
use Rattle.fleet_verify.proofs.CriticalPaths.{none_of, none_from}
use Rattle.fleet_verify.proofs.times.Times.need_until.Goals as goal

pub returns-in-None-clause-none : goal.returns-in-None-clause-none
returns-in-None-clause-none g c =
    let p = g.P.ProgramView.program c.args.self.now.program in
    let cost = g.C.ActionCosts.cost c.args.self.now.costs in
    none_of ((a : ActionId) → IsNeedUntil p cost c.args.action c.args.time a → ⊥) c.own_until.result (λ is a h. elim h.needs [
      | inl own ↦ none_from ((x : ActionId) → IsOwnUntil p cost c.args.action c.args.time x → ⊥) c.own_until.result c.own_until.ensures.none is a
          (record { agent = own.0; before = own.1; some = own.2; critical = h.critical })
      | inr w ↦ c.in-None.ensures.none a (record { awaits = w; critical = h.critical })
    ])
