use Rattle.fleet_verify.proofs.Words.{rules, map, ◌∷◌, [], codes, decimal, gathers_err, gathers_then, stops_before, lists_with_spaces, next_words, with_spaces, action_text}
use Rattle.fleet_verify.proofs.fault.put_ring_words.Goals as goal

pub returns-in_err-put_words : goal.returns-in_err-put_words
returns-in_err-put_words g c =
    let head = codes "verify" ∷ decimal 7 ∷ codes "Cyclic" ∷ [] in
    let rest = map action_text c.args.ring.now in
    rw (lists_with_spaces head rest (search rules))
    (gathers_err _ _ _ _ _ _ (search rules) (stops_before _ _ _ (with_spaces head) (next_words rest) c.in_err-put_words.ensures))

pub returns : goal.returns
returns g c =
    let head = codes "verify" ∷ decimal 7 ∷ codes "Cyclic" ∷ [] in
    let rest = map action_text c.args.ring.now in
    rw (lists_with_spaces head rest (search rules))
    (gathers_then _ _ _ _ _ _ _ (with_spaces head) (next_words rest) c.in_ok-put_words.ensures c.put_actions.ensures)
