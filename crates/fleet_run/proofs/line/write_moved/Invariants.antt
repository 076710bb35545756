use Rattle.fleet_run.proofs.Words.{◌≡◌, ◌≤◌, ◌+◌, ◌-◌, length, MAX_AGENTS}
use Rattle.fleet_machine.specs.AgentSet.{IsCursorOf}
use Rattle.fleet_run.specs.declared.line.TheConstants.{LINE}
use Rattle.fleet_run.specs.declared.line.TheConstants.{MOST_RESIZED, NUMERALS}
use Rattle.fleet_run.proofs.Lines.{IsRewritten}
use Rattle.fleet_run.proofs.line.write_moved.Given as goal

abbrev pub invariant-loop-i : goal.invariant-loop-i
invariant-loop-i l = record {
  cursor : IsCursorOf l.machine.moving l.cursor;
  from : l.cursor.from ≤ MAX_AGENTS;
  few : l.resized ≤ MOST_RESIZED;
  room : length l.row ≡ LINE;
  begun : length l.begins ≡ NUMERALS + 1;
  kept : IsRewritten l.machine l.cursor.from l.row l.begins l.places;
}

abbrev pub decreases-loop-i : goal.decreases-loop-i
decreases-loop-i l = MAX_AGENTS + 1 - l.cursor.from
