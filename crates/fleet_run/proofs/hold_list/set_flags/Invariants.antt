use Rattle.fleet_run.proofs.Words.{take, AreFlagsOf}
use Rattle.fleet_run.proofs.hold_list.set_flags.Given as goal

abbrev pub invariant-loop-number : goal.invariant-loop-number
invariant-loop-number l = AreFlagsOf (take l.number-index l.numbers) l.flags
