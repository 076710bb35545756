use Rattle.fleet_verify.proofs.Words.{ℕ, Option, Await, arith, subst, sym, cases_eq, inl, inr, IsStopped}
use Rattle.fleet_verify.proofs.still.free_agent.Goals as goal

pub loop-agent-preserved : goal.loop-agent-preserved
loop-agent-preserved g c i lt =
    let Stands : ℕ → Type 0 = λ j. (w : Option Await) × IsStopped (g.P.ProgramView.program c.args.program.now) c.args.ahead.now.rows.items j w in
    elim (cases_eq i c.loop-agent.agent) [
      | inl e ↦ subst Stands (sym e) (c.can_go_on.ensures.no c.if-can_go_on.false)
      | inr ne ↦ c.loop-agent.invariant i (omega (arith, lt, ne))
    ]
