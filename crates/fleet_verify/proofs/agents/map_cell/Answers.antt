use Rattle.fleet_verify.proofs.Words.{inl, inr, arith, ints}
use Rattle.fleet_verify.proofs.Positions.{beyond_map}
use Rattle.fleet_verify.proofs.agents.map_cell.Goals as goal
use Rattle.fleet_verify.proofs.agents.map_cell.Goals.{then-is_left-via-then-is_left, then-is_left-via-else-is_left+then-is_right, then-is_left-via-else-is_left+else-is_right+then-is_above, then-is_left-via-else-is_left+else-is_right+else-is_above+then-is_below}

pub returns-then-is_left-clause-none : goal.returns-then-is_left-clause-none
returns-then-is_left-clause-none c =
    beyond_map c.args.grid.now c.args.place c.width.ensures.sizes
    (elim c.then-is_left.branch [
      | then-is_left-via-then-is_left w ↦ inl (omega (arith, ints, w.if-is_left.true))
      | then-is_left-via-else-is_left+then-is_right w ↦ inr (inl (omega (arith, ints, w.if-is_right.true, c.from-width.ensures, c.width.ensures.value)))
      | then-is_left-via-else-is_left+else-is_right+then-is_above w ↦ inr (inr (inl (omega (arith, ints, w.if-is_above.true))))
      | then-is_left-via-else-is_left+else-is_right+else-is_above+then-is_below w ↦ inr (inr (inr (omega (arith, ints, w.if-is_below.true, c.from-height.ensures, c.height.ensures.value))))
    ])
