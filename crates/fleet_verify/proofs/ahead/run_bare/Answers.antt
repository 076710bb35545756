use Rattle.fleet_verify.proofs.Words.{◌∙◌, inl, inr, arith, err_from_is_err_and}
use Rattle.fleet_verify.proofs.Climbing.{runner_within}
use Rattle.fleet_verify.proofs.ahead.run_bare.Goals as goal

pub finish_next-requires-clause-needs : goal.finish_next-requires-clause-needs
finish_next-requires-clause-needs g c = c.in-Some.ensures.says.needs

pub loop-runner-preserved : goal.loop-runner-preserved
loop-runner-preserved g c =
    let before = c.loop-runner.invariant in
    let made = c.in_ok-runner.ensures.gone in
    record {
      runner = made.runner;
      finished = omega (arith, made.finished, before.finished);
      others = λ j ne. made.others j ne ∙ before.others j ne;
      fits = omega (arith, made.finished, made.level, c.in-Some.ensures.level, before.fits);
    }

pub returns-clause-ran : goal.returns-clause-ran
returns-clause-ran g c =
    let now = c.loop-runner.invariant in
    record {
      runner = now.runner;
      finished = now.finished;
      rest = inl (omega (arith, c.loop-runner-test.false, c.moves-moves.ensures, runner_within now.runner));
      others = now.others;
    }

pub returns-in_default-clause-ran : goal.returns-in_default-clause-ran
returns-in_default-clause-ran g c =
    let now = c.loop-runner.invariant in
    record { runner = now.runner; finished = now.finished; rest = inr (inl c.in_default.ensures.none); others = now.others }

pub returns-in_err-runner : goal.returns-in_err-runner
returns-in_err-runner g c =
    let e = err_from_is_err_and c.from_residual.result c.from_residual.ensures.1 in
    rw (e.1, e.2) (record { ran = tt; stop = c.in_err-runner.ensures.stop })
