use Rattle.fleet_run.proofs.Words.{◌≡◌, ◌++◌, take, each_spaced}
use Rattle.std.specs.Fmt.{decimal}
use Rattle.fleet_run.proofs.hold_writing.put_tick.Given as goal

abbrev pub invariant-loop-agent : goal.invariant-loop-agent
invariant-loop-agent l = l.text.items ≡ l.fn.text.items ++ each_spaced decimal (take l.agent-index l.others)
