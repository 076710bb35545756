use Rattle.fleet_verify.proofs.Words.{◌≡◌, ℕ, ◌+◌, length, sym, ap, subst, ◌∙◌, arith, inl, inr, cases_lt, moves, TimesParts, IsLater, IsLatest}
use Rattle.fleet_verify.proofs.CriticalPaths.{IsLatestOf, latest_stays, latest_more, arrived_latest, no_moves, some_of, none_of}
use Rattle.fleet_verify.proofs.times.Times.latest.Goals as goal
use Rattle.fleet_verify.proofs.times.Times.latest.Goals.{then-number-gt0, else-number-gt0}

pub loop-agent-preserved : goal.loop-agent-preserved
loop-agent-preserved g c =
    let p = g.P.ProgramView.program c.args.self.now.program in
    let cost = g.C.ActionCosts.cost c.args.self.now.costs in
    let n = c.loop-agent.agent in
    let view = ap (λ (t : TimesParts _ _). moves (g.P.ProgramView.program t.program) n) c.self.view_is in
    let number : c.moves-number.result ≡ moves p n = c.moves-number.ensures ∙ view in
    elim c.if-number-gt0.branch [
      | then-number-gt0 w ↦ record {
        latest = subst (IsLatestOf p cost (n + 1)) (sym w.latest-is)
            (latest_more p cost n c.loop-agent.latest c.loop-agent.invariant.latest c.known.ensures.critical w.later.result
            (subst (λ (k : ℕ). IsLater p cost c.loop-agent.latest (record { agent = n; number = k }) w.later.result) number w.later.ensures));
      }
      | else-number-gt0 w ↦ record {
        latest = subst (IsLatestOf p cost (n + 1)) (sym w.latest-is)
            (latest_stays p cost n c.loop-agent.latest c.loop-agent.invariant.latest (omega (arith, number, w.if-number-gt0.false)));
      }
    ]

pub returns-clause-some : goal.returns-clause-some
returns-clause-some g c = some_of (IsLatest (g.P.ProgramView.program c.args.self.now.program) (g.C.ActionCosts.cost c.args.self.now.costs)) c.loop-agent.latest (λ a is.
    let p = g.P.ProgramView.program c.args.self.now.program in
    let cost = g.C.ActionCosts.cost c.args.self.now.costs in
    let view = ap (λ (t : TimesParts _ _). length (g.P.ProgramView.program t.program)) c.self.view_is in
    let all : c.loop-agent.agent ≡ length p = omega (arith, view, c.loop-agent-test.false, c.loop-agent.auto.agent-end, c.agents-agent-end.ensures.count) in
    arrived_latest p cost c.known.ensures.critical c.loop-agent.latest (subst (λ (n : ℕ). IsLatestOf p cost n c.loop-agent.latest) all c.loop-agent.invariant.latest) a is)

pub returns-clause-none : goal.returns-clause-none
returns-clause-none g c = none_of ((i : ℕ) → moves (g.P.ProgramView.program c.args.self.now.program) i ≡ 0) c.loop-agent.latest (λ is i.
    let p = g.P.ProgramView.program c.args.self.now.program in
    let view = ap (λ (t : TimesParts _ _). length (g.P.ProgramView.program t.program)) c.self.view_is in
    elim (cases_lt i (length p)) [
      | inl l ↦ c.loop-agent.invariant.latest.none is i (omega (arith, l, view, c.loop-agent-test.false, c.loop-agent.auto.agent-end, c.agents-agent-end.ensures.count))
      | inr l ↦ no_moves p i l
    ])
