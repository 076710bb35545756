use Rattle.fleet_verify.proofs.Words.{◌≡◌, ℕ, List, Some, moves, sym, subst, IsNextLevel, climbed_in, count_in}
use Rattle.fleet_verify.proofs.Climbing.{none_climbs, kept_back}
use Rattle.fleet_verify.proofs.FewerLeft.{goes_on, some_left}
use Rattle.fleet_verify.proofs.still.can_go_on.Goals as goal

pub returns-in-Ok-clause-yes : goal.returns-in-Ok-clause-yes
returns-in-Ok-clause-yes g c _ =
    let p = g.P.ProgramView.program c.args.program.now in
    let rows = c.args.ahead.now.rows.items in
    let i = c.args.agent in
    let here = c.runner_of-runner.ensures.finished in
    goes_on p rows i _ (some_left c.has_finished.result (count_in rows i) (moves p i) c.requires.within c.has_finished.ensures.1 c.if-has_finished.false)
    (subst (λ (rs : List (List ℕ)). IsNextLevel p rs i c.in-Ok.field-0.level) (none_climbs rows i c.runner_of-runner.result.finished here) c.in-Ok.ensures.says.needs.level) c.in-Ok.ensures.level

pub returns-in-Err-clause-no : goal.returns-in-Err-clause-no
returns-in-Err-clause-no g c _ =
    let p = g.P.ProgramView.program c.args.program.now in
    let rows = c.args.ahead.now.rows.items in
    let i = c.args.agent in
    let here = c.runner_of-runner.ensures.finished in
    let same = none_climbs rows i c.runner_of-runner.result.finished here in
    (Some c.in-Err.field-0, kept_back p rows (climbed_in rows i c.runner_of-runner.result.finished) i c.runner_of-runner.result.finished c.in-Err.field-0 (sym same) (subst (λ (rs : List (List ℕ)). count_in rs i ≡ c.runner_of-runner.result.finished) (sym same) (sym here)) c.in-Err.ensures.waits)
