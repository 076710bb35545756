use Rattle.fleet_verify.proofs.Words.{is_passable, ℕ, List, ◌∙◌, ap, arith, refl, inl, inr, err_from_is_err_and, Runner, climbed_in, count_in}
use Rattle.fleet_verify.proofs.Climbing.{runner_begins, runner_count, runner_within, kept_back, runner_there}
use Rattle.fleet_verify.proofs.FewerLeft.{ran_on, has_run}
use Rattle.fleet_verify.proofs.ahead.run_agent.Goals as goal

pub loop-runner-init : goal.loop-runner-init
loop-runner-init g c =
    let come = c.runner_of-runner.ensures in
    record {
      runner = runner_begins (is_passable c.args.grid.now) (g.P.ProgramView.program c.args.program.now) (g.P.ProgramView.offset c.args.program.now) c.args.ahead.now c.args.agent c.runner_of-runner.result
          c.requires.ahead c.requires.agent come;
      own = inr (come.finished, refl);
      others = λ j ne. refl;
    }

pub finish_next-requires-clause-needs : goal.finish_next-requires-clause-needs
finish_next-requires-clause-needs g c = c.in-Ok.ensures.says.needs

pub returns-in-Err-clause-ran : goal.returns-in-Err-clause-ran
returns-in-Err-clause-ran g c =
    let now = c.loop-runner.invariant in
    let n = c.loop-runner.runner.finished in
    let made = c.stop_at.ensures in
    record {
      ahead = rw (made.rows, made.cells, made.last, made.pairs) now.runner.ahead;
      waits = c.in-Err.ensures.agent;
      stopped = kept_back (g.P.ProgramView.program c.args.program.now) c.stop_at.new.ahead.rows.items (climbed_in c.loop-runner.ahead.rows.items c.args.agent n) c.args.agent n c.in-Err.awaited made.rows (runner_count now.runner) c.in-Err.ensures.waits;
      run_on = ran_on c.args.ahead.now.rows.items c.loop-runner.ahead.rows.items c.stop_at.new.ahead.rows.items c.args.agent n (runner_there now.runner) now.runner.begun made.rows now.others now.own;
    }

pub returns-clause-ran : goal.returns-clause-ran
returns-clause-ran g c =
    let now = c.loop-runner.invariant in
    let made = c.stop_at-2.ensures in
    let stopped = ap (λ (rs : List (List ℕ)). count_in rs c.args.agent) made.rows in
    record {
      ahead = rw (made.rows, made.cells, made.last, made.pairs) now.runner.ahead;
      waits = tt;
      stopped = omega (arith, stopped, runner_count now.runner, runner_within now.runner, c.loop-runner-test.false, c.moves-moves.ensures);
      run_on = ran_on c.args.ahead.now.rows.items c.loop-runner.ahead.rows.items c.stop_at-2.new.ahead.rows.items c.args.agent c.loop-runner.runner.finished (runner_there now.runner) now.runner.begun made.rows now.others now.own;
    }

pub loop-runner-preserved-then-is_bare : goal.loop-runner-preserved-then-is_bare
loop-runner-preserved-then-is_bare g c =
    let before = c.loop-runner.invariant in
    let gone = c.in_ok-runner-in-Ok.ensures.gone in
    let ran = c.in_ok-runner-in-Ok-2.ensures.ran in
    record {
      runner = ran.runner;
      own = inl (has_run (count_in c.args.ahead.now.rows.items c.args.agent) c.loop-runner.runner.finished _ before.own (omega (arith, gone.finished, ran.finished, ap (λ (r : Runner). r.finished) c.copy_of.ensures)));
      others = λ j ne. ran.others j ne ∙ (gone.others j ne ∙ before.others j ne);
    }

pub loop-runner-preserved : goal.loop-runner-preserved
loop-runner-preserved g c =
    let before = c.loop-runner.invariant in
    let gone = c.in_ok-runner-in-Ok.ensures.gone in
    record {
      runner = gone.runner;
      own = inl (has_run (count_in c.args.ahead.now.rows.items c.args.agent) c.loop-runner.runner.finished _ before.own (omega (arith, gone.finished)));
      others = λ j ne. gone.others j ne ∙ before.others j ne;
    }

pub returns-in_err-runner-in-Ok : goal.returns-in_err-runner-in-Ok
returns-in_err-runner-in-Ok g c =
    let e = err_from_is_err_and c.from_residual.result c.from_residual.ensures.1 in
    rw (e.1, e.2) (record { ran = tt; stop = c.in_err-runner-in-Ok.ensures.stop })
