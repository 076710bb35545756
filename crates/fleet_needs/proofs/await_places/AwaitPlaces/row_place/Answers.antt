use Rattle.std.proofs.Common.{◌<◌, length, sym, arith}
use Rattle.fleet_needs.proofs.{Counting.count_read, JoinLaws.row_within}
use Rattle.fleet_needs.proofs.await_places.AwaitPlaces.row_place.Goals as goal

pub returns-clause-within : goal.returns-clause-within
returns-clause-within g c =
    let i = c.args.action.agent in
    let l : i < length (g.P.ProgramView.program c.args.program.now) = c.requires.agent in
    let places = rw (sym c.self.view_is) at c.requires.places in
    let read = count_read c.self.inside.firsts.items c.from-agent.result i c.index.result.now c.from-agent.ensures (omega (arith, l, places.all)) c.index.ensures in
    let most = row_within _ c.args.action (record { agent = c.requires.agent; last = c.requires.last }) in
    omega (arith, most, places.each i l, read, c.awaits_before-before.ensures, c.from-agent.ensures)
