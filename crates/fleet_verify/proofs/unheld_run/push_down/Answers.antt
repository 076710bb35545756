use Rattle.fleet_verify.proofs.Words.{◌++◌, ◌∷◌, [], ◌-◌, ap, sym, ◌∙◌, append_assoc, ActionId, down_from}
use Rattle.fleet_verify.proofs.Looking.{down_more}
use Rattle.fleet_verify.proofs.unheld_run.push_down.Goals as goal

pub loop-back-preserved : goal.loop-back-preserved
loop-back-preserved c =
    let a : ActionId = record { agent = c.args.agent; number = c.args.last - c.loop-back.back } in
    c.in_ok-push.ensures.items ∙ (ap (λ xs. xs ++ a ∷ []) c.loop-back.invariant ∙ (append_assoc c.args.trail.now.items (down_from c.args.agent c.args.last c.loop-back.back) (a ∷ [])
    ∙ ap (λ xs. c.args.trail.now.items ++ xs) (sym (down_more c.args.agent c.args.last c.loop-back.back))))
