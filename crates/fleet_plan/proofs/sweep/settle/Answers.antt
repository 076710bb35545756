use Rattle.fleet_plan.proofs.Words.{ℕ, ◌<◌, length, get_or, slice_index, ap, arith, IsAgentSettled}
use Rattle.fleet_plan.proofs.RowLaws.{but_begins, but_ends}
use Rattle.fleet_plan.proofs.MeetLaws.{settled_more}
use Rattle.fleet_plan.proofs.sweep.settle.Goals as goal

pub loop-i-init : goal.loop-i-init
loop-i-init c = but_begins c.args.agents.now (length c.args.next.now) (IsAgentSettled c.args.places.now c.args.next.now c.args.ahead.now c.args.walks.now) c.requires.others

pub loop-i-preserved : goal.loop-i-preserved
loop-i-preserved c =
    let next = c.args.next.now in
    let now = c.loop-i in
    let agent : slice_index c.args.agents.now now.i-index < length next = c.requires.agents now.i-index 0 c.loop-i-test.true in
    settled_more c.args.agents.now now.places next now.ahead now.walks now.i-index (length next) c.from-agent.result (get_or next c.from-agent.result 0) c.from-agent.ensures
    (ap (λ (n : ℕ). get_or next n 0) c.from-agent.ensures)
    (omega (arith, agent, c.requires.places, c.loop-i.auto.places))
    (omega (arith, agent, c.requires.ahead, c.loop-i.auto.ahead))
    (omega (arith, agent, c.requires.walks, c.loop-i.auto.walks))
    c.loop-i.invariant

pub returns : goal.returns
returns c = but_ends c.args.agents.now c.loop-i.i-index (length c.args.next.now) (IsAgentSettled c.loop-i.places c.args.next.now c.loop-i.ahead c.loop-i.walks) c.loop-i.invariant c.loop-i-test.false
