use Rattle.fleet_verify.proofs.Words.{◌≡◌, ◌≢◌, ℕ, ◌+◌, ◌-◌, ◌≤◌, sym, subst, arith, IsAction, level_in, TimesParts, AreTimes, IsStretchTo, IsWholeTo, of_agent}
use Rattle.fleet_verify.proofs.ClimbingBack.{climbed_back}
use Rattle.fleet_verify.proofs.CriticalPaths.{stretch_begins, stretch_on}
use Rattle.fleet_verify.proofs.times.Times.way_to.Goals as goal
use Rattle.fleet_verify.proofs.times.Times.way_to.Goals.{After-from}
use Rattle.fleet_verify.proofs.times.Times.way_to.Given.{Over}

pub way_on-requires : goal.way_on-requires
way_on-requires g c =
    let p = g.P.ProgramView.program c.args.self.now.program in
    let cost = g.C.ActionCosts.cost c.args.self.now.costs in
    stretch_on p cost c.args.action c.args.end c.args.action.number c.args.end (stretch_begins p cost c.args.action c.args.end c.requires.action c.requires.end) (omega arith)
    c.in-Some.before c.in-Some.time c.in-Some.ensures.some

pub returns-in-None-clause-stretch : goal.returns-in-None-clause-stretch
returns-in-None-clause-stretch g c =
    stretch_begins (g.P.ProgramView.program c.args.self.now.program) (g.C.ActionCosts.cost c.args.self.now.costs) c.args.action c.args.end c.requires.action c.requires.end

pub climb_begin-requires : goal.climb_begin-requires
climb_begin-requires g c =
    let h = (rw c.in-Levels.is at c.self.invariant.critical).0 in
    let act = subst (λ (t : TimesParts _ _). IsAction (g.P.ProgramView.program t.program) c.args.action) (sym c.self.view_is) c.requires.action in
    let whole = h.whole c.args.action.agent act.agent in
    record { agent = omega (arith, act.agent, h.all); ranked = record { first = act.first; last = omega (arith, act.last, whole) } }

-- the first action that the levels tell
climbed : (g : Over) (c : After-from g) → (c.args.action.number - c.max-first.result ≤ c.args.end)
    × IsStretchTo (g.P.ProgramView.program c.args.self.now.program) (g.C.ActionCosts.cost c.args.self.now.costs) c.args.action c.args.end c.max-first.result (c.args.end - c.from.result)
    × IsWholeTo (g.P.ProgramView.program c.args.self.now.program) (g.C.ActionCosts.cost c.args.self.now.costs) c.args.action c.max-first.result (c.args.end - c.from.result)
climbed g c =
    let p = g.P.ProgramView.program c.args.self.now.program in
    let cost = g.C.ActionCosts.cost c.args.self.now.costs in
    let rows = c.in-Levels.levels.now in
    let h = subst (λ (v : TimesParts _ _). AreTimes (g.P.ProgramView.program v.program) (g.C.ActionCosts.cost v.costs) c.self.inside.ends) c.self.view_is c.self.invariant in
    let kept = rw c.in-Levels.is at h.critical in
    climbed_back p cost rows kept.0 kept.1 c.args.action c.requires.action c.args.end c.requires.end c.max-first.result (omega (arith, c.max-first.ensures, c.least_first-least.ensures))
    (omega (arith, c.max-first.ensures, c.climb_begin.ensures.within, c.least_first-least.ensures, c.requires.action.first)) (λ n l m. c.climb_begin.ensures.climbs n (omega (arith, c.max-first.ensures, l)) m)
    (omega (arith, c.max-first.ensures, c.least_first-least.ensures))
    (λ room some.
    let same : c.climb_begin.result ≡ c.max-first.result = omega (arith, c.max-first.ensures, c.least_first-least.ensures, room, some) in
    subst (λ (k : ℕ). level_in rows (of_agent c.args.action k) ≢ level_in rows (of_agent c.args.action (k - 1)) + 1) same (c.climb_begin.ensures.whole (omega (arith, same, some)))) c.from.result (omega (arith, c.from.ensures))

pub overflow_sub-result : goal.overflow_sub-result
overflow_sub-result g c = let few = (climbed g c).0 in omega (arith, c.from.ensures, few)

pub returns-in-Levels : goal.returns-in-Levels
returns-in-Levels g c = let way = climbed g c in record { stretch = way.1; whole = way.2 }
