use Rattle.fleet_plan.proofs.Words.{err_from_is_err_and, lines}
use Rattle.fleet_plan.proofs.PlanLaws.{is_found}
use Rattle.fleet_plan.proofs.PlanFaults.{read, reported_is_first}
use Rattle.fleet_plan.proofs.reading.read_plan.Goals as goal

pub new-requires : goal.new-requires
new-requires c = (is_found (lines c.args.bytes.now) c.in_ok-paths.paths.items (rw c.new-lines.ensures.lines at c.in_ok-paths.ensures)).agents

pub returns-clause-found : goal.returns-clause-found
returns-clause-found c = rw c.new.ensures (is_found (lines c.args.bytes.now) c.in_ok-paths.paths.items (rw c.new-lines.ensures.lines at c.in_ok-paths.ensures))

pub returns-in_err-paths-clause-read : goal.returns-in_err-paths-clause-read
returns-in_err-paths-clause-read c = λ plan h.
    let p = err_from_is_err_and c.from_residual.result c.from_residual.ensures.1 in
    rw (p.1, p.2) (read (lines c.args.bytes.now) c.in_err-paths.field-0.0 (rw c.new-lines.ensures.lines at c.in_err-paths.ensures) plan h)

pub returns-in_err-paths-clause-fault : goal.returns-in_err-paths-clause-fault
returns-in_err-paths-clause-fault c =
    let p = err_from_is_err_and c.from_residual.result c.from_residual.ensures.1 in
    rw (p.1, p.2) (reported_is_first (lines c.args.bytes.now) c.in_err-paths.field-0.0 (rw c.new-lines.ensures.lines at c.in_err-paths.ensures))
