use Rattle.std.proofs.Common.{◌≡◌, ◌*◌, ◌≤◌, ◌++◌, ◌∷◌, [], length, drop}
use Rattle.fleet_dispatch.proofs.LogText.{spaced}
use Rattle.fleet_dispatch.proofs.log_text.write_log_line.Given as goal

abbrev pub invariant-loop-i : goal.invariant-loop-i
invariant-loop-i l = record {
  room : 22 * l.i ≤ l.at;
  high : l.at ≤ 22528;
  row : length l.row ≡ 22529;
  written : drop l.at l.row ≡ spaced (drop l.i l.words) ++ 10 ∷ [];
}
