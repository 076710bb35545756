use Rattle.fleet_verify.proofs.Words.{◌∙◌, err_from_is_err_and}
use Rattle.fleet_verify.proofs.still.run_ahead.Goals as goal

pub loop-preserved : goal.loop-preserved
loop-preserved g c = record { ahead = c.in_ok-look_at.ensures.stopped.ahead; queue = c.in_ok-look_at.ensures.stopped.queue ∙ (c.pop.ensures.same ∙ c.loop.invariant.queue) }

pub returns-clause-still : goal.returns-clause-still
returns-clause-still g c = c.run_rest.ensures.still

pub returns-in_err-look_at-clause-stop : goal.returns-in_err-look_at-clause-stop
returns-in_err-look_at-clause-stop g c =
    let e = err_from_is_err_and c.from_residual-in_err-look_at.result c.from_residual-in_err-look_at.ensures.1 in
    rw (e.1, e.2) c.in_err-look_at.ensures.stop
