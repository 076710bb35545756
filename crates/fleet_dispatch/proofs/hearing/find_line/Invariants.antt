use Rattle.fleet_dispatch.proofs.Cited.{◌≡◌, ◌-◌, ◌≤◌, None, length, take, position, prepend_known, Keeps, is_lf, window_rest, LINE_ROOM}
use Rattle.fleet_dispatch.proofs.hearing.find_line.Given as goal

abbrev pub invariant-reads : goal.invariant-reads
invariant-reads g l = record {
  kept : Keeps (prepend_known (window_rest l.initial.window) (g.R.Read.remaining l.initial.input)) (prepend_known (window_rest l.window) (g.R.Read.remaining l.input));
  front : l.front ≤ length (window_rest l.window);
  none : position is_lf (take l.front (window_rest l.window)) ≡ None;
}

abbrev pub decreases-reads : goal.decreases-reads
decreases-reads g l = LINE_ROOM - length (window_rest l.window)
