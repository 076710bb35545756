use Rattle.fleet_needs.proofs.Words.{◌≡◌, ◌++◌, map, take, awaits_of, need_for, needs_in}
use Rattle.fleet_needs.proofs.schedule.Joins.list.Given as goal

abbrev pub invariant-loop-k : goal.invariant-loop-k
invariant-loop-k g l =
    needs_in l.awaits ≡ needs_in l.fn.self.awaits ++ map (need_for (g.P.ProgramView.program l.program) l.standing) (take l.k (awaits_of (g.P.ProgramView.program l.program) l.action.agent l.action.number))
