use Rattle.fleet_adg.proofs.Words.{sym, ap, subst, ◌∙◌, Ok, Deps, IsAccepted, is_passable, RunEqually, compiled_staying}
use Rattle.fleet_adg.proofs.Staying.{short-accepted, stay_alike}
use Rattle.fleet_adg.proofs.compiler.compile_dwell.Goals as goal

pub returns-clause-program : goal.returns-clause-program
returns-clause-program c =
    let p = compiled_staying c.args.checked.now.plan c.args.deps c.args.dwell in
    let is = c.in_ok-program.ensures p (rw c.deref.ensures.value c.in_ok-compiled.ensures.spelled.spelled.spelled) in
    c.in_ok-compiled.ensures.due ∙ ap Ok (sym is)

pub returns-clause-accepted : goal.returns-clause-accepted
returns-clause-accepted c =
    let p = compiled_staying c.args.checked.now.plan c.args.deps c.args.dwell in
    let is = c.in_ok-program.ensures p (rw c.deref.ensures.value c.in_ok-compiled.ensures.spelled.spelled.spelled) in
    subst (IsAccepted (is_passable c.args.checked.now.grid) c.args.checked.now.instance) (sym is) c.in_ok-compiled.ensures.accepted

pub returns-clause-short : goal.returns-clause-short
returns-clause-short c =
    let p = compiled_staying c.args.checked.now.plan c.args.deps c.args.dwell in
    let is = c.in_ok-program.ensures p (rw c.deref.ensures.value c.in_ok-compiled.ensures.spelled.spelled.spelled) in
    let ground = is_passable c.args.checked.now.grid in
    let tasks = c.args.checked.now.instance in
    short-accepted ground tasks c.in_ok-program.program (subst (IsAccepted ground tasks) (sym is) c.in_ok-compiled.ensures.accepted)

pub returns-clause-equally : goal.returns-clause-equally
returns-clause-equally c =
    let plan = c.args.checked.now.plan in
    let p = compiled_staying plan c.args.deps c.args.dwell in
    let is = c.in_ok-program.ensures p (rw c.deref.ensures.value c.in_ok-compiled.ensures.spelled.spelled.spelled) in
    subst (λ q. (other : Deps) → RunEqually q (compiled_staying plan other c.args.dwell)) (sym is) (λ other. stay_alike (is_passable c.args.checked.now.grid) c.args.checked.now.instance plan c.plan-plan.ensures.checked.free c.args.dwell c.args.deps other)
