use Rattle.fleet_code.proofs.Words.{◌-◌, length, IsEvenFrom}
use Rattle.fleet_code.proofs.offsets.first_even.Given as goal

abbrev pub invariant-loop-back : goal.invariant-loop-back
invariant-loop-back l = IsEvenFrom l.offsets (length l.offsets - 1 - l.back) l.stride
