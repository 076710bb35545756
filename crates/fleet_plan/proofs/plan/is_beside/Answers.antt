use Rattle.std.proofs.Common.{arith}
use Rattle.fleet_plan.proofs.PathLaws.{beside_in_column, beside_in_row}
use Rattle.fleet_plan.proofs.plan.is_beside.Goals as goal

pub returns-then-is_in_column : goal.returns-then-is_in_column
returns-then-is_in_column c =
    let same = beside_in_column c.args.from c.args.to (omega (arith, c.if-is_in_column.true)) in
    (λ h. same.0 (c.is_near.ensures.0 h), λ h. c.is_near.ensures.1 (same.1 h))

pub returns-then-is_in_row : goal.returns-then-is_in_row
returns-then-is_in_row c =
    let same = beside_in_row c.args.from c.args.to (omega (arith, c.if-is_in_row.true)) in
    let near = c.is_near-then-is_in_row.ensures in
    (λ h. same.0 (near.0 h), λ h. near.1 (same.1 h))
