use Rattle.fleet_text.proofs.SinkLemmas.{room_made, room_refused}
use Rattle.fleet_text.proofs.row.Row.add_two.Goals as goal

pub returns-in_err-make_room : goal.returns-in_err-make_room
returns-in_err-make_room g c = room_refused _ _ _ _ _ _ c.from_residual.ensures.0 c.in_err-make_room.ensures.gathered

pub returns : goal.returns
returns g c = room_made _ _ _ _ _ _ c.in_ok-make_room.ensures.gathered c.append_two.ensures
