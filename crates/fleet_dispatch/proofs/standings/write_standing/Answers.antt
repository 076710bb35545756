use Rattle.fleet_dispatch.proofs.Cited.{[], arith, drop_all, codes, decimal, option_map_or, place_text, await_text}
use Rattle.fleet_dispatch.proofs.Written.{nine_joined}
use Rattle.fleet_dispatch.proofs.standings.write_standing.Goals as goal

pub returns-clause-written : goal.returns-clause-written
returns-clause-written c =
    let s = c.args.whereabouts in
    let none = drop_all 96 c.args.row.now (omega arith) in
    nine_joined (codes "at ") (decimal s.agent) (place_text s.place) (codes " done ") (decimal s.done) (codes " of ") (decimal s.moves) (option_map_or await_text s.waits []) (codes "\n")
    _ _ _ _ _ _ _ _ _ _ none c.write_byte-at.ensures.written c.write_waits-at.ensures.written c.write_count-at.ensures.written c.write_bytes-at.ensures.written c.write_count-at-2.ensures.written
    c.write_bytes-at-2.ensures.written c.write_place-at.ensures.written c.write_count-at-3.ensures.written c.write_bytes.ensures.written
