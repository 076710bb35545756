use Rattle.fleet_needs.proofs.Words.{◌≡◌, IsStage, noted_in}
use Rattle.fleet_needs.proofs.cost_walk.advance.Given as goal

abbrev pub invariant-loop-met : goal.invariant-loop-met
invariant-loop-met g l = record {
  same : l.walk ≡ l.fn.walk;
  stage : IsStage (g.P.ProgramView.program l.program) (g.C.ActionCosts.cost l.costs) (g.P.ProgramView.offset l.program) l.agent (noted_in l.fn.walk l.agent) (record { met = l.met; at = l.at; greatest = l.greatest });
}
