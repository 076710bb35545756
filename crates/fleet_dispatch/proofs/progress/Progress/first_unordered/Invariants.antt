use Rattle.fleet_dispatch.proofs.Cited.{◌≡◌, ℕ, take, told_at, AreOrdered}
use Rattle.fleet_dispatch.proofs.progress.Progress.first_unordered.Given as goal

abbrev pub invariant-loop-word : goal.invariant-loop-word
invariant-loop-word g l =
    let p = g.P.ProgramView.program l.program in
    (k : ℕ) → l.self.told ≡ told_at p k l.self.done → AreOrdered p k l.self.done (take l.word-index l.report)
