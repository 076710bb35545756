use Rattle.std.proofs.lemmas.Result.{err_from_is_err_and}
use Rattle.fleet_text.specs.Text.{lines}
use Rattle.fleet_scen.proofs.ScenLaws.{is_found}
use Rattle.fleet_scen.proofs.ScenFaults.{read, reported_is_first, all_open}
use Rattle.fleet_scen.proofs.reading.read_scen.Goals as goal

pub new-requires : goal.new-requires
new-requires c = (is_found c.args.grid.now c.args.asked (lines c.args.bytes.now) c.in_ok-tasks.tasks.items c.in_ok-tasks.ensures).instance

pub returns-clause-found : goal.returns-clause-found
returns-clause-found c = rw c.new.ensures (is_found c.args.grid.now c.args.asked (lines c.args.bytes.now) c.in_ok-tasks.tasks.items c.in_ok-tasks.ensures)

pub returns-clause-cells : goal.returns-clause-cells
returns-clause-cells c =
    let found = is_found c.args.grid.now c.args.asked (lines c.args.bytes.now) c.in_ok-tasks.tasks.items c.in_ok-tasks.ensures in
    rw c.new.ensures (all_open c.args.grid.now c.args.asked (lines c.args.bytes.now) c.in_ok-tasks.tasks.items found)

pub returns-in_err-tasks-clause-read : goal.returns-in_err-tasks-clause-read
returns-in_err-tasks-clause-read c = λ tasks h.
    let p = err_from_is_err_and c.from_residual.result c.from_residual.ensures.1 in
    rw (p.1, p.2) (read c.args.grid.now c.args.asked (lines c.args.bytes.now) c.in_err-tasks.field-0.0 c.in_err-tasks.ensures tasks h)

pub returns-in_err-tasks-clause-fault : goal.returns-in_err-tasks-clause-fault
returns-in_err-tasks-clause-fault c =
    let p = err_from_is_err_and c.from_residual.result c.from_residual.ensures.1 in
    rw (p.1, p.2) (reported_is_first c.args.grid.now c.args.asked (lines c.args.bytes.now) c.in_err-tasks.field-0.0 c.in_err-tasks.ensures)
