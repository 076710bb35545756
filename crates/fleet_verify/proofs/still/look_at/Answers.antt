use Rattle.fleet_verify.proofs.Words.{◌∙◌, err_from_is_err_and}
use Rattle.fleet_verify.proofs.still.look_at.Goals.{in-Some, in_default}
use Rattle.fleet_verify.proofs.still.look_at.Goals as goal

pub returns-clause-stopped : goal.returns-clause-stopped
returns-clause-stopped g c =
    let ran = c.in_ok-awaited.ensures.ran in
    record {
      ahead = ran.ahead;
      queue = c.in_ok-wake.ensures ∙ elim c.match-branch-2.branch [ in-Some w ↦ w.queue-is ∙ w.wait.ensures | in_default w ↦ w.queue-is ];
      stopped = (c.in_ok-awaited.field-0, ran.stopped);
    }

pub returns-in_err-awaited-clause-stop : goal.returns-in_err-awaited-clause-stop
returns-in_err-awaited-clause-stop g c =
    let e = err_from_is_err_and c.from_residual.result c.from_residual.ensures.1 in
    rw (e.1, e.2) c.in_err-awaited.ensures.stop
