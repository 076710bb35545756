use Rattle.fleet_verify.proofs.Words.{err_from_is_err_and, is_passable}
use Rattle.fleet_verify.proofs.verifier.judge.Goals as goal

pub returns-in_err-check_starts-clause-err : goal.returns-in_err-check_starts-clause-err
returns-in_err-check_starts-clause-err g c =
    let e = err_from_is_err_and c.from_residual.result c.from_residual.ensures.1 in
    rw (e.1, e.2) (c.in_err-check_starts.ensures.err (is_passable c.args.grid.now))
