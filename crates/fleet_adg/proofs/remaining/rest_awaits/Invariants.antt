use Rattle.fleet_adg.proofs.Words.{◌≡◌, take, awaits_of, rest_awaits}
use Rattle.fleet_adg.proofs.remaining.rest_awaits.Given as goal

abbrev pub invariant-loop-k : goal.invariant-loop-k
invariant-loop-k g l = record { made : l.awaits ≡ rest_awaits l.standings (take l.k (awaits_of (g.P.ProgramView.program l.program) l.fn.action.agent l.fn.action.number)) }
