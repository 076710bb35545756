use Rattle.std.proofs.Common.{sym, ◌∙◌, arith}
use Rattle.fleet_adg.proofs.Moves.{moves_by-zero, moves_by-le}
use Rattle.fleet_adg.proofs.SweepSteps.{moves_more, moves_stay, moves_at_end}
use Rattle.fleet_adg.proofs.sweep.moves_of.Goals as goal
use Rattle.fleet_adg.proofs.sweep.moves_of.Goals.{then-is_some, else-is_some}

pub loop-time-init : goal.loop-time-init
loop-time-init c = sym (moves_by-zero c.args.plan.now c.args.i)

pub overflow_add-moves : goal.overflow_add-moves
overflow_add-moves c = omega (arith, c.loop-time.invariant, moves_by-le c.args.plan.now c.args.i c.loop-time.time)

pub loop-time-preserved : goal.loop-time-preserved
loop-time-preserved c =
    let test = sym c.move_in.ensures.moves ∙ sym c.is_some.ensures in
    elim c.if-is_some.branch [
      | then-is_some w ↦ w.moves-is ∙ moves_more c.args.plan.now c.args.i c.loop-time.time c.loop-time.moves (test ∙ w.if-is_some.true) c.loop-time.invariant
      | else-is_some w ↦ w.moves-is ∙ moves_stay c.args.plan.now c.args.i c.loop-time.time c.loop-time.moves (test ∙ w.if-is_some.false) c.loop-time.invariant
    ]

pub returns-clause-value : goal.returns-clause-value
returns-clause-value c =
    let long = c.steps-time-end.ensures.time in
    let over = c.loop-time-test.false in
    moves_at_end c.args.plan.now c.args.i c.loop-time.time c.loop-time.moves c.path.result.now c.path.ensures (omega (arith, long, over, c.loop-time.auto.time-end)) c.loop-time.invariant

pub returns-clause-few : goal.returns-clause-few
returns-clause-few c =
    let long = c.steps-time-end.ensures.time in
    let few = c.steps-time-end.ensures.limits.few_cells in
    omega (arith, long, few, c.loop-time.auto.time-end, c.loop-time.invariant, moves_by-le c.args.plan.now c.args.i c.loop-time.time)
