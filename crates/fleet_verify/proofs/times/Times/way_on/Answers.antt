use Rattle.fleet_verify.proofs.Words.{arith, of_agent}
use Rattle.fleet_verify.proofs.CriticalPaths.{stretch_on, way_action}
use Rattle.fleet_verify.proofs.times.Times.way_on.Goals as goal

pub longer-requires-clause-action : goal.longer-requires-clause-action
longer-requires-clause-action g c =
    way_action (g.P.ProgramView.program c.args.self.now.program) (g.C.ActionCosts.cost c.args.self.now.costs) c.args.action c.args.end _ (of_agent c.args.action c.loop-first.first) c.loop-first.time c.loop-first.invariant.way

pub loop-first-preserved : goal.loop-first-preserved
loop-first-preserved g c =
    stretch_on (g.P.ProgramView.program c.args.self.now.program) (g.C.ActionCosts.cost c.args.self.now.costs) c.args.action c.args.end c.loop-first.first c.loop-first.time c.loop-first.invariant
    (omega (arith, c.loop-first-test.true, c.least_first-least.ensures)) c.in-Some.before c.in-Some.begun c.in-Some.ensures.some

pub returns-clause-whole : goal.returns-clause-whole
returns-clause-whole g c = λ room a f. omega (arith, room, f.2.before, f.2.some, c.loop-first-test.false, c.least_first-least.ensures)
