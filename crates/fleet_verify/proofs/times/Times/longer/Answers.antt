use Rattle.fleet_verify.proofs.Words.{◌≡◌, ℕ, subst, arith, ActionId, FollowsOwn, IsOwnUntil}
use Rattle.fleet_verify.proofs.CriticalPaths.{none_of}
use Rattle.fleet_verify.proofs.times.Times.longer.Goals as goal

pub returns-in_err-before-clause-none : goal.returns-in_err-before-clause-none
returns-in_err-before-clause-none g c =
    let p = g.P.ProgramView.program c.args.self.now.program in
    let cost = g.C.ActionCosts.cost c.args.self.now.costs in
    none_of ((a : ActionId) → FollowsOwn p cost c.args.action c.args.end a → ⊥) c.from_residual.result (λ _ a f.
    let same : f.0 ≡ c.begin-time.result = omega (arith, f.1, c.begin-time.ensures) in
    c.in_err-before.ensures.none a (subst (λ (t : ℕ). IsOwnUntil p cost c.args.action t a) same f.2))
