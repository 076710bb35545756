use Rattle.std.proofs.Common.{◌≡◌, ◌≤◌, ◌+◌, ◌*◌, ◌++◌, length, take}
use Rattle.fleet_text.specs.Words.{digit_words}
use Rattle.fleet_text.proofs.row.copy_digits.Given as goal

abbrev pub invariant-loop-k : goal.invariant-loop-k
invariant-loop-k l = record {
  end : l.at ≤ l.begin + 17 * l.k;
  len : length l.bytes ≡ length l.fn.bytes;
  written : take l.at l.bytes ≡ take l.begin l.fn.bytes ++ digit_words (take l.front l.piece) l.digit l.k;
}
