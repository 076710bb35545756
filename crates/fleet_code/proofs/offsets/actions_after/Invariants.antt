use Rattle.fleet_code.proofs.Words.{◌≡◌, ◌≤◌, ◌+◌, ◌*◌, [], ◌∷◌, length, vec_len, min, take, actions_at, with_ends}
use Rattle.fleet_code.proofs.OffsetLoop.{EndsGoOn}
use Rattle.fleet_code.proofs.offsets.actions_after.Given as goal

abbrev pub invariant-loop-done : goal.invariant-loop-done
invariant-loop-done l = record {
  so_far : EndsGoOn l.head.version l.head.whole l.head.agents l.own l.count l.done l.rest (take (l.done + 1) l.offsets.items) l.end (with_ends (0 ∷ []) 0 (actions_at l.head.version l.count l.head.whole l.head.agents l.own l.bytes));
  counted : vec_len l.offsets ≡ min l.count (length l.bytes) + 1;
  taken : length l.rest + l.done ≤ length l.bytes;
  long : l.end ≤ 1025 * l.done;
}
