use Rattle.std.proofs.Common.{◌<◌, length, sym, arith}
use Rattle.fleet_needs.proofs.{AwaitOrder.flag_within, Counting.count_read}
use Rattle.fleet_needs.proofs.await_places.AwaitPlaces.first.Goals as goal

pub returns-clause-within : goal.returns-clause-within
returns-clause-within g c =
    let i = c.args.action.agent in
    let l : i < length (g.P.ProgramView.program c.args.program.now) = c.requires.action.agent in
    let places = rw (sym c.self.view_is) at c.requires.places in
    let read = count_read c.self.inside.firsts.items c.from.result i c.index.result.now c.from.ensures (omega (arith, l, places.all)) c.index.ensures in
    omega (arith, flag_within _ c.args.action c.requires.action, places.each i l, read, c.awaits_before-before.ensures)
