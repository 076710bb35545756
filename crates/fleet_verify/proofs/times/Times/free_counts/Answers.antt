use Rattle.fleet_verify.proofs.Words.{◌≡◌, ℕ, length, ap, subst, arith, TimesParts, IsFreeTo, EachFits}
use Rattle.fleet_verify.proofs.CriticalPaths.{each_more}
use Rattle.fleet_verify.proofs.times.Times.free_counts.Goals as goal

pub loop-i-preserved : goal.loop-i-preserved
loop-i-preserved g c =
    each_more (IsFreeTo (g.P.ProgramView.program c.args.self.now.program) (g.C.ActionCosts.cost c.args.self.now.costs)) c.loop-i.counts.items c.loop-i.i c.free_count.result c.loop-i.invariant c.free_count.ensures
    c.push.new.self.items c.in_ok-push.ensures.items

pub returns : goal.returns
returns g c =
    let p = g.P.ProgramView.program c.args.self.now.program in
    let view = ap (λ (t : TimesParts _ _). length (g.P.ProgramView.program t.program)) c.self.view_is in
    let all : c.loop-i.i ≡ length p = omega (arith, view, c.loop-i-test.false, c.loop-i.auto.i-end, c.agents-agents.ensures.count) in
    subst (λ (n : ℕ). EachFits (IsFreeTo p (g.C.ActionCosts.cost c.args.self.now.costs)) n c.loop-i.counts.items) all c.loop-i.invariant
