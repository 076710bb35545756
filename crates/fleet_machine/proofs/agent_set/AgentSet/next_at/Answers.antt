use Rattle.std.proofs.Common.{◌<◌, ◌+◌, length, arith}
use Rattle.fleet_machine.proofs.Bits.{long_flags}
use Rattle.fleet_machine.proofs.Onward.{agent_at, next_by_bit, cursor_behind}
use Rattle.fleet_machine.proofs.agent_set.AgentSet.next_at.Goals as goal

pub pass-requires-clause-fit : goal.pass-requires-clause-fit
pass-requires-clause-fit c =
    let agent : c.args.cursor.now.first + c.in-Some.place < length c.args.self.now = agent_at c.args.self.now c.args.cursor.now c.requires c.in-Some.place c.in-Some.ensures in
    let few = c.self.invariant.bits.few in
    let inside = rw (← c.self.view_is, long_flags c.self.inside.words c.self.inside.agents) at agent in
    omega arith

pub returns-in-Some-clause-next : goal.returns-in-Some-clause-next
returns-in-Some-clause-next c =
    rw c.pass.ensures.agent (next_by_bit c.args.self.now c.args.cursor.now c.requires c.in-Some.place c.in-Some.ensures)

pub returns-in-Some-clause-cursor : goal.returns-in-Some-clause-cursor
returns-in-Some-clause-cursor c =
    rw c.pass.ensures.behind
    (cursor_behind c.args.self.now c.args.cursor.now c.requires c.in-Some.place c.in-Some.ensures c.pass.new.self.bits c.pass.ensures.here c.pass.ensures.others)
