use Rattle.fleet_verify.proofs.Words.{◌≡◌, ◌+◌, ℕ, arith, ◌∙◌, subst, List, slice_index, ◌++◌, ◌-◌, ActionId, nth, next_of, want_at, down_from}
use Rattle.fleet_verify.proofs.Waiting.{blocked_next, steps_more, nth_more, trail_on, some_on, told, IsWaitTrail}
use Rattle.fleet_verify.proofs.unheld_run.ring_from.Goals as goal

pub prove-unreachable-requires : goal.prove-unreachable-requires
prove-unreachable-requires g c =
    omega (arith, (blocked_next (g.P.ProgramView.program c.args.program.now) c.args.counts.now c.args.wants.now c.requires.ranges c.requires.wants c.loop-steps.agent c.loop-steps.invariant.blocked).agent, c.agents-agents.ensures.count)

pub returns-then-is_back : goal.returns-then-is_back
returns-then-is_back g c =
    let p = g.P.ProgramView.program c.args.program.now in
    let counts = c.args.counts.now in
    let wants = c.args.wants.now in
    let i = c.loop-steps.agent in
    let b = c.loop-steps.invariant.blocked in
    let trail : List ActionId = c.loop-steps.trail.items ++ down_from (next_of wants i) (want_at wants i).count ((want_at wants i).count - slice_index counts (next_of wants i)) in
    let on : IsWaitTrail counts wants c.args.first (next_of wants i) trail = trail_on p counts wants c.requires.ranges c.requires.wants c.args.first i c.loop-steps.trail.items c.loop-steps.invariant.trail c.loop-steps.invariant.not_back b in
    rw (c.reverse.ensures.items, c.in_ok-push_down.ensures)
    (told p counts wants c.requires.ranges c.requires.wants c.args.first trail c.requires.first (subst (λ (j : ℕ). IsWaitTrail counts wants c.args.first j trail) c.if-is_back.true on)
    (some_on p counts wants c.requires.ranges c.requires.wants i c.loop-steps.trail.items b))

pub loop-steps-preserved : goal.loop-steps-preserved
loop-steps-preserved g c =
    let p = g.P.ProgramView.program c.args.program.now in
    let counts = c.args.counts.now in
    let wants = c.args.wants.now in
    let i = c.loop-steps.agent in
    let b = c.loop-steps.invariant.blocked in
    let e : next_of wants i ≡ nth (next_of wants) (c.loop-steps._steps + 1) c.args.first = nth_more (next_of wants) c.loop-steps._steps c.args.first i c.loop-steps.invariant.agent in
    record {
      blocked = blocked_next p counts wants c.requires.ranges c.requires.wants i b;
      agent = e;
      apart = steps_more (next_of wants) c.loop-steps._steps c.args.first c.loop-steps.invariant.apart (λ f. c.if-is_back.false (e ∙ f));
      trail = rw c.in_ok-push_down.ensures (trail_on p counts wants c.requires.ranges c.requires.wants c.args.first i c.loop-steps.trail.items c.loop-steps.invariant.trail c.loop-steps.invariant.not_back b);
      not_back = λ n f. c.if-is_back.false f;
    }

pub unreachable-requires : goal.unreachable-requires
unreachable-requires g c =
    let l = c.requires.first.back in
    c.loop-steps.invariant.apart l.0 l.1 (omega (arith, l.2, c.agents-agents.ensures.count)) l.3
