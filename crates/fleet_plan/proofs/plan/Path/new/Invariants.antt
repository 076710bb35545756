use Rattle.fleet_plan.proofs.Words.{All, take, IsCell}
use Rattle.fleet_plan.proofs.plan.Path.new.Given as goal

abbrev pub invariant-loop-cell : goal.invariant-loop-cell
invariant-loop-cell l = All IsCell (take l.cell-index l.fn.cells.items)
