use Rattle.fleet_search.proofs.Words.{◌≡◌, ◌-◌, ◌++◌, ◌∷◌, [], ◌≤◌, Some, ap, ◌∙◌, arith, slice_get, on_ok_weaker, Task, is_passable, arrival, IsInfeasible, AreTables}
use Rattle.fleet_search.proofs.KeptPaths.{earliest-again, earliest-later}
use Rattle.fleet_search.proofs.orders.renew_path.Goals as goal
use Rattle.fleet_search.proofs.orders.renew_path.Goals.{then-has_steps+in_ok-add_path+else-branch, else-has_steps}

pub returns-then-branch : goal.returns-then-branch
returns-then-branch c =
    let added = rw c.if-branch.true at c.in_ok-add_path.ensures.added in
    record {
      tables = c.in_ok-add_path.ensures.tables;
      added = (
        added.0,
        added.1,
        λ task t.
            let few : c.steps-steps.result - 1 ≤ c.args.problem.now.horizon = (let late = (c.requires.old task t).1.in_time in let e = c.steps-steps.ensures.time in omega arith) in
            earliest-later (is_passable c.args.problem.now.grid.now) c.args.reserved.now task.start task.goal (c.steps-steps.result - 1) c.args.problem.now.horizon added.0 few (added.2 task t),
      );
    }

pub returns : goal.returns
returns c =
    let passable = is_passable c.args.problem.now.grid.now in
    let tasks = c.args.problem.now.instance.now in
    let plan = c.args.reserved.now in
    let old = c.args.old.now in
    let sooner = c.steps-steps.result - 1 in
    let none : AreTables c.args.problem.now c.if-has_steps.tables × (c.if-has_steps.reserved ≡ plan) × ((task : Task) → slice_get tasks c.args.agent ≡ Some task → 1 ≤ arrival old → IsInfeasible passable plan task.start task.goal sooner) = elim c.if-has_steps.branch [
      | then-has_steps+in_ok-add_path+else-branch w ↦ let added = rw w.if-branch.false at w.in_ok-add_path.ensures.added in (rw w.tables-is w.in_ok-add_path.ensures.tables, w.reserved-is ∙ added.0, λ task t some. added.1 task t)
      | else-has_steps w ↦ (rw w.tables-is c.requires.tables, w.reserved-is, λ task t some. absurd (let e = c.steps-steps.ensures.time in let n = w.if-has_steps in omega arith))
    ] in
    on_ok_weaker c.reserve.result
    (λ added. record {
      tables = none.0;
      added = (
        old,
        added ∙ ap (λ z. z ++ old ∷ []) none.1,
        λ task t.
            let o = c.requires.old task t in
            earliest-again passable o.0 plan task.start task.goal c.args.problem.now.horizon sooner old o.1 c.requires.fits (let e = c.steps-steps.ensures.time in omega arith) (none.2 task t),
      );
    })
    c.reserve.ensures.ok

pub add_path-requires-clause-agent : goal.add_path-requires-clause-agent
add_path-requires-clause-agent c = c.requires.agent

pub add_path-requires-clause-tables : goal.add_path-requires-clause-tables
add_path-requires-clause-tables c = c.requires.tables
