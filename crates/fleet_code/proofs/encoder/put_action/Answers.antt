use Rattle.fleet_code.proofs.Words.{◌++◌, ◌∷◌, [], ◌∙◌, List, ℕ, ap, append_assoc, flat_map, on_ok_weaker, opcode}
use Rattle.fleet_code.specs.Spelling.{await}
use Rattle.fleet_code.proofs.encoder.put_action.Goals as goal

pub returns : goal.returns
returns c =
    let step = opcode c.args.step ∷ [] in
    on_ok_weaker c.put_step.result (λ last.
    last ∙ ap (λ (bytes : List ℕ). bytes ++ step) c.in_ok-put_awaits.ensures ∙ append_assoc c.args.out.now.items (flat_map (await c.args.version) c.args.awaits.now) step) c.put_step.ensures
