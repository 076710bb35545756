use Rattle.fleet_needs.proofs.Words.{◌≤◌, ℕ, length, IsCostWalk, noted_in}
use Rattle.fleet_needs.proofs.Walking.{AreDeep, IsDeep, to_go}
use Rattle.fleet_needs.proofs.cost_walk.reach.Given as goal

abbrev pub invariant-loop-walk : goal.invariant-loop-walk
invariant-loop-walk g l = record {
  walk : IsCostWalk (g.P.ProgramView.program l.program) (g.C.ActionCosts.cost l.costs) (g.P.ProgramView.offset l.program) l.walk;
  grown : (i : ℕ) → noted_in l.fn.walk i ≤ noted_in l.walk i;
  goals : AreDeep (g.P.ProgramView.program l.program) l.fn.goal l.goals.items;
  last : IsDeep (g.P.ProgramView.program l.program) l.fn.goal (length l.goals.items) l.last;
}

abbrev pub decreases-loop-walk : goal.decreases-loop-walk
decreases-loop-walk g l = to_go (g.P.ProgramView.program l.program) l.walk l.last (length l.goals.items)
