use Rattle.fleet_plan.proofs.Words.{◌≡◌, ◌++◌, take, each_spaced, cell_text}
use Rattle.fleet_plan.proofs.writing.put_path.Given as goal

abbrev pub invariant-loop-cell : goal.invariant-loop-cell
invariant-loop-cell l = l.text.items ≡ l.fn.text.items ++ each_spaced cell_text (take l.cell-index l.others)
