use Rattle.fleet_verify.proofs.Words.{◌≡◌, ◌≤◌, ◌+◌, ◌-◌, length, awaits_of}
use Rattle.fleet_verify.proofs.CriticalPaths.{NoneUntil}
use Rattle.fleet_verify.proofs.times.Times.awaited_until.Given as goal

abbrev pub invariant-instructions : goal.invariant-instructions
invariant-instructions g l =
    let p = g.P.ProgramView.program l.self.program in
    record {
      within : l.k ≤ length (awaits_of p l.fn.action.agent l.fn.action.number);
      at : l.at ≡ g.P.ProgramView.offset l.self.program l.fn.action.agent (l.fn.action.number - 1) l.k;
      none : NoneUntil p (g.C.ActionCosts.cost l.self.costs) l.fn.action l.fn.time l.k;
    }

abbrev pub decreases-instructions : goal.decreases-instructions
decreases-instructions g l = length (awaits_of (g.P.ProgramView.program l.self.program) l.fn.action.agent l.fn.action.number) + 1 - l.k
