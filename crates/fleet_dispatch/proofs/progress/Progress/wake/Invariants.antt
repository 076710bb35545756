use Rattle.fleet_dispatch.proofs.Cited.{◌≡◌, ℕ, is_some, count_by, LeadsBut, is_woken, HasRows}
use Rattle.fleet_dispatch.proofs.progress.Progress.wake.Given as goal

abbrev pub invariant-woken : goal.invariant-woken
invariant-woken g l =
    let p = g.P.ProgramView.program l.program in
    record {
      same : l.self ≡ record l.fn.self { waiting = l.self.waiting; due = l.self.due };
      rows : HasRows p l.self;
      leads : (k : ℕ) → LeadsBut (is_woken l.fn.self.waiting.homes l.i) p k l.fn.self → LeadsBut (is_woken l.self.waiting.homes l.i) p k l.self;
    }

abbrev pub decreases-woken : goal.decreases-woken
decreases-woken g l = count_by is_some l.self.waiting.homes
