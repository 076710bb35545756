use Rattle.fleet_verify.proofs.Words.{subst, TimesParts, AreTimes}
use Rattle.fleet_verify.proofs.CriticalPaths.{ends_each}
use Rattle.fleet_verify.proofs.times.Times.known.Goals as goal

pub returns-clause-in_range : goal.returns-clause-in_range
returns-clause-in_range g c =
    (subst (λ (v : TimesParts _ _). AreTimes (g.P.ProgramView.program v.program) (g.C.ActionCosts.cost v.costs) c.self.inside.ends) c.self.view_is c.self.invariant).in_range

pub returns-clause-critical : goal.returns-clause-critical
returns-clause-critical g c =
    let h = subst (λ (v : TimesParts _ _). AreTimes (g.P.ProgramView.program v.program) (g.C.ActionCosts.cost v.costs) c.self.inside.ends) c.self.view_is c.self.invariant in
    ends_each (g.P.ProgramView.program c.args.self.now.program) (g.C.ActionCosts.cost c.args.self.now.costs) c.self.inside.ends h.critical
