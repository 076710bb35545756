use Rattle.std.proofs.Common.{◌≡◌, ◌≤◌, ◌<◌, ℕ, true, not, length, get_or}
use Rattle.fleet_text.specs.Text.{is_lf}
use Rattle.fleet_cli.proofs.files.whole_lines.Given as goal

abbrev pub invariant-loop-end : goal.invariant-loop-end
invariant-loop-end l = record {
  within : l.end ≤ length l.bytes;
  others : (k : ℕ) → l.end ≤ k → k < length l.bytes → not (is_lf (get_or l.bytes k 0)) ≡ true;
}

abbrev pub decreases-loop-end : goal.decreases-loop-end
decreases-loop-end l = l.end
