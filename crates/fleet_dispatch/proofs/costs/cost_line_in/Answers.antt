use Rattle.fleet_dispatch.proofs.Cited.{rules, cost_line_in}
use Rattle.fleet_dispatch.proofs.CostLemmas.{said_is}
use Rattle.fleet_dispatch.proofs.costs.cost_line_in.Goals as goal

pub returns-then-is_of-clause-cost : goal.returns-then-is_of-clause-cost
unfolding cost_line_in
returns-then-is_of-clause-cost g c = said_is (g.P.ProgramView.program c.args.program.now) c.args.line.now c.in_ok-said.said (search rules)
