use Rattle.fleet_verify.proofs.Words.{ℕ, List, ap, subst, IfOk-weaker, ActionId, Program, EachFreeTo, AreReached, broken_cost}
use Rattle.fleet_verify.specs.declared.stopped.Breaks.{Breaks}
use Rattle.fleet_verify.proofs.CriticalPaths.{reached_of, stops_of}
use Rattle.fleet_verify.proofs.stopped.reached_counts.Goals as goal
use Rattle.fleet_verify.proofs.stopped.reached_counts.Goals.{Joined-times}
use Rattle.fleet_verify.proofs.stopped.reached_counts.Given.{Over}

reached : (g : Over) (c : Joined-times g) (counts : List ℕ) → EachFreeTo (g.P.ProgramView.program c.in_ok-times.times.program) (broken_cost c.in_ok-times.times.costs.numbers.now) counts
    → AreReached (g.P.ProgramView.program c.args.accepted.now.program) c.args.breaks.now counts
reached g c counts h =
    let p = g.P.ProgramView.program c.args.accepted.now.program in
    let ok = c.chain.ensures.accepted.accepted in
    let costs = ap (λ (b : Breaks). broken_cost b.numbers.now) c.in_ok-times.ensures.costs in
    let program = ap g.P.ProgramView.program c.in_ok-times.ensures.program in
    reached_of p ok.right.in_range ok.numbering.0 ok.numbering.1 c.args.breaks.now counts
    (subst (λ (cost : ActionId → ℕ). EachFreeTo p cost counts) costs (subst (λ (q : Program). EachFreeTo q (broken_cost c.in_ok-times.times.costs.numbers.now) counts) program h))

pub returns-clause-reached : goal.returns-clause-reached
returns-clause-reached g c = IfOk-weaker c.free_counts.result _ _ (λ counts h. reached g c counts.items h) c.free_counts.ensures

pub returns-clause-stops : goal.returns-clause-stops
returns-clause-stops g c =
    let ok = c.chain.ensures.accepted.accepted in
    IfOk-weaker c.free_counts.result _ _ (λ counts h. stops_of (g.P.ProgramView.program c.args.accepted.now.program) ok.right.in_range ok.numbering.0 ok.numbering.1 c.args.breaks.now counts.items (reached g c counts.items h)) c.free_counts.ensures
