use Rattle.fleet_dispatch.proofs.Cited.{◌≡◌, true, take, nat_le, list_all, count_of, said_of}
use Rattle.fleet_dispatch.proofs.progress.Progress.is_repeat.Given as goal

abbrev pub invariant-loop-word : goal.invariant-loop-word
invariant-loop-word g l = list_all (λ x. nat_le (said_of l.self.done x) (count_of l.self.done x.agent)) (take l.word-index l.report) ≡ true
