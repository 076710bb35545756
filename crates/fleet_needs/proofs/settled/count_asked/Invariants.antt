use Rattle.std.specs.Prelude.{count_by}
use Rattle.fleet_needs.proofs.Words.{◌≡◌, Bool, take}
use Rattle.fleet_needs.proofs.settled.count_asked.Given as goal

abbrev pub invariant-loop-flag : goal.invariant-loop-flag
invariant-loop-flag l = l.count ≡ count_by (λ (flag : Bool). flag) (take l.flag-index l.asked)
