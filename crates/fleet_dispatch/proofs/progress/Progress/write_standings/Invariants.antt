use Rattle.fleet_dispatch.proofs.Cited.{◌≡◌, ◌*◌, ◌≤◌, length, take, flat_map, range_with_len, left_line}
use Rattle.fleet_dispatch.proofs.progress.Progress.write_standings.Given as goal

abbrev pub invariant-loop-i : goal.invariant-loop-i
invariant-loop-i g l =
    let p = g.P.ProgramView.program l.program in
    record {
      at : l.at ≤ 96 * l.i;
      row : length l.row ≡ length l.fn.row;
      written : take l.at l.row ≡ flat_map (left_line p l.self.done) (range_with_len 0 l.i);
    }
