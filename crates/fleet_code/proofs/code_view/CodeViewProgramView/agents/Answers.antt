use Rattle.std.proofs.Common.{arith}
use Rattle.fleet_code.proofs.InPlace.{viewed, as_many_parts}
use Rattle.fleet_code.proofs.code_view.CodeViewProgramView.agents.Goals as goal

pub overflow_cast-result : goal.overflow_cast-result
overflow_cast-result c =
    let v = viewed c.self.view_is c.self.invariant in
    let many = as_many_parts v in
    let few = v.spelled.well_formed.few_agents in
    let len = c.len.ensures in
    let same = c.self.inside.parts.ok.0 in
    omega (arith, many, few, len, same)

pub returns-clause-count : goal.returns-clause-count
returns-clause-count c =
    let many = as_many_parts (viewed c.self.view_is c.self.invariant) in
    let len = c.len.ensures in
    let same = c.self.inside.parts.ok.0 in
    omega (arith, many, len, same)
