use Rattle.fleet_code.proofs.Words.{◌≡◌, ◌++◌, replicate, Dwell, opcode}
use Rattle.fleet_code.proofs.encoder.put_stays.Given as goal

abbrev pub invariant-loop : goal.invariant-loop
invariant-loop l = l.out.items ≡ l.initial.out.items ++ replicate l.counter (opcode Dwell)
