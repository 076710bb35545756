use Rattle.fleet_code.proofs.Words.{◌++◌, ◌∷◌, [], replicate, sym, ap, ◌∙◌, append_assoc, replicate_next, Dwell, opcode}
use Rattle.fleet_code.proofs.encoder.put_stays.Goals as goal

pub loop-preserved : goal.loop-preserved
loop-preserved c =
    let front = c.args.out.now.items in
    let stay = opcode Dwell in
    c.in_ok-push.ensures.items ∙ ap (λ x. c.loop.out.items ++ x ∷ []) c.opcode_of.ensures ∙ ap (λ z. z ++ stay ∷ []) c.loop.invariant ∙ append_assoc front (replicate c.loop.counter stay) (stay ∷ []) ∙ ap (λ z. front ++ z) (sym (replicate_next c.loop.counter stay))
