use Rattle.fleet_plan.proofs.WalkLaws.{walked_begins, walked_none, walked-more_none, walked-more_some, walked_all}
use Rattle.fleet_plan.proofs.sweep.least_on_ring.Goals as goal
use Rattle.fleet_plan.proofs.sweep.least_on_ring.Goals.{in-Some, in_default}

pub loop-number-init : goal.loop-number-init
loop-number-init c = walked_begins c.args.row.now c.args.ahead.now c.args.walks.now c.requires.walks c.requires.row.others

pub loop-number-preserved : goal.loop-number-preserved
loop-number-preserved c =
    let row = c.args.row.now in
    let ahead = c.args.ahead.now in
    let i = c.loop-number.number in
    let invariant = c.loop-number.invariant in
    elim c.match-walk.branch [
      | in-Some w ↦
          rw w.least-is (walked-more_some row ahead c.loop-number.walks c.walk.new.walks c.loop-number.least i invariant w.in-Some.agent w.least_around.result w.lesser.result w.in-Some.ensures
          w.least_around.ensures.ring w.least_around.ensures.least w.lesser.ensures.other w.lesser.ensures.least w.lesser.ensures.one)
      | in_default w ↦ rw w.least-is (walked-more_none row ahead c.loop-number.walks c.walk.new.walks c.loop-number.least i invariant w.in_default.ensures)
    ]

pub returns-clause-found : goal.returns-clause-found
returns-clause-found c = walked_all c.args.row.now c.args.ahead.now c.loop-number.walks c.loop-number.number c.loop-number-test.false c.loop-number.least c.loop-number.invariant

pub returns-clause-unwalked : goal.returns-clause-unwalked
returns-clause-unwalked c = walked_none c.args.row.now c.args.ahead.now c.loop-number.walks c.loop-number.least c.loop-number.number c.loop-number.invariant
