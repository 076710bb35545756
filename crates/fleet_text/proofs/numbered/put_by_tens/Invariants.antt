use Rattle.std.proofs.Common.{◌≤◌, ◌-◌}
use Rattle.fleet_text.specs.Row.{PassesOn}
use Rattle.fleet_text.specs.Words.{next_words, numbered_words}
use Rattle.fleet_text.proofs.numbered.put_by_tens.Given as goal

abbrev pub invariant-loop-done : goal.invariant-loop-done
invariant-loop-done g l = record {
  within : l.done ≤ l.count;
  written : PassesOn (g.O.TraceOut.state l.fn.out) (g.O.TraceOut.state l.out) l.fn.row l.row (next_words (numbered_words l.owner l.first l.done));
}

abbrev pub decreases-loop-done : goal.decreases-loop-done
decreases-loop-done g l = l.count - l.done
