use Rattle.std.proofs.lemmas.Result.{err_from_is_err_and}
use Rattle.fleet_verify.proofs.agents.check_paths.Goals as goal

pub returns-in_err-faults-clause-err : goal.returns-in_err-faults-clause-err
returns-in_err-faults-clause-err g c =
    let e = err_from_is_err_and c.from_residual.result c.from_residual.ensures.1 in
    rw (e.1, e.2) c.in_err-faults.ensures.err

pub returns-in_err-faults-clause-memory : goal.returns-in_err-faults-clause-memory
returns-in_err-faults-clause-memory g c =
    let e = err_from_is_err_and c.from_residual.result c.from_residual.ensures.1 in
    rw (e.1, e.2) c.in_err-faults.ensures.memory
