use Rattle.std.proofs.Common.{ℕ, List, [], ◌∷◌, ◌++◌, decimal, ap, append_assoc, ◌∙◌}
use Rattle.fleet_text.proofs.SinkLemmas.{room_made, room_refused}
use Rattle.fleet_text.proofs.row.Row.add_next_two.Goals as goal

pub returns-in_err-make_room : goal.returns-in_err-make_room
returns-in_err-make_room g c = room_refused _ _ _ _ _ _ c.from_residual.ensures.0 c.in_err-make_room.ensures.gathered

pub returns : goal.returns
returns g c =
    let word : List ℕ = (decimal c.args.first ++ c.args.between ∷ []) ++ decimal c.args.second in
    room_made _ _ _ _ _ _ c.in_ok-make_room.ensures.gathered (c.append_two.ensures ∙ ap (λ l. l ++ word) c.append_byte.ensures ∙ append_assoc c.make_room.new.self (32 ∷ []) word)
