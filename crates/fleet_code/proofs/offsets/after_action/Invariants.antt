use Rattle.fleet_code.proofs.Words.{◌≡◌, ◌≤◌, ◌+◌, List, length, Await, action_at}
use Rattle.fleet_code.proofs.ActionLoop.{ActionGoesOn}
use Rattle.fleet_code.proofs.offsets.after_action.Given as goal

abbrev pub invariant-loop-opcode : goal.invariant-loop-opcode
invariant-loop-opcode l = record {
  so_far : (awaits : List Await) × (l.opcodes ≡ length awaits + 1) × ActionGoesOn l.head.version l.head.whole l.head.agents l.own l.least l.rest awaits (action_at l.head.version (length l.bytes) l.head.whole l.head.agents l.own 0 l.bytes);
  shorter : length l.rest ≤ length l.bytes;
  many : l.opcodes ≤ l.least + 1;
  few : l.least ≤ l.head.agents;
}

abbrev pub decreases-loop-opcode : goal.decreases-loop-opcode
decreases-loop-opcode l = length l.rest
