use Rattle.fleet_dispatch.proofs.Cited.{take, counts_after, CarriesOut}
use Rattle.fleet_dispatch.proofs.progress.Progress.take.Given as goal

abbrev pub invariant-loop-word : goal.invariant-loop-word
invariant-loop-word g l =
    CarriesOut (g.P.ProgramView.program l.program) l.fn.self l.self (counts_after l.fn.self.done (take l.word-index l.report))
