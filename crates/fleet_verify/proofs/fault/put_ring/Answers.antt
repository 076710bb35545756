use Rattle.fleet_verify.proofs.Words.{rules, map, ◌∷◌, [], codes, decimal, takes_rest, takes_err, stops_within_more, with_spaces, action_text}
use Rattle.fleet_verify.proofs.fault.put_ring.Goals as goal

pub returns-in_err-put_ring_words : goal.returns-in_err-put_ring_words
returns-in_err-put_ring_words g c =
    takes_err _ _ _ _ (search rules)
    (stops_within_more _ _ (with_spaces (codes "verify" ∷ decimal 7 ∷ codes "Cyclic" ∷ map action_text c.args.ring.now)) (10 ∷ []) (rw c.new-row.ensures at c.in_err-put_ring_words.ensures))

pub returns : goal.returns
returns g c = takes_rest _ _ _ _ [] _ (with_spaces (codes "verify" ∷ decimal 7 ∷ codes "Cyclic" ∷ map action_text c.args.ring.now)) (10 ∷ []) (rw c.new-row.ensures at c.in_ok-put_ring_words.ensures) c.end_line.ensures
