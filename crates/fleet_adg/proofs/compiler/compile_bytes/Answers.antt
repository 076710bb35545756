use Rattle.fleet_adg.proofs.Words.{◌≤◌, ℕ, length, sym, ap, subst, ◌∙◌, MAX_MOVES_IN_ALL, is_passable, Version, spelling, Plan, steps, compiled_staying, has_few_actions, all_bytes_by}
use Rattle.fleet_adg.proofs.SweepSteps.{length-all_bytes_by}
use Rattle.fleet_adg.proofs.Staying.{staying-well_formed, staying-accepted, stay_alike}
use Rattle.fleet_adg.proofs.Joined.{rows_fit, rows_total, length-staying, shortest_bytes, first_bytes}
use Rattle.fleet_adg.proofs.compiler.compile_bytes.Goals as goal

pub actions_in-moves-requires : goal.actions_in-moves-requires
actions_in-moves-requires c =
    let plan = c.args.checked.now.plan in
    let few = sym (c.if-not-has_few_actions.ensures ∙ ap (λ p. has_few_actions p c.args.dwell) c.plan-plan.ensures.value) in
    let formed = staying-well_formed plan c.args.deps c.args.dwell c.plan-plan.ensures.checked.limits few in
    let total = rows_total plan c.args.deps c.args.dwell c.version_for-version.result c.deref.result.now (c.deref.ensures.value ∙ c.in_ok-actions.ensures) in
    subst (λ (n : ℕ). n ≤ MAX_MOVES_IN_ALL) (sym total) formed.moves_in_all

pub join-requires-clause-agents : goal.join-requires-clause-agents
join-requires-clause-agents c =
    let plan = c.args.checked.now.plan in
    ap length (c.deref-2.ensures.value ∙ c.in_ok-actions.ensures) ∙ length-all_bytes_by plan c.args.deps c.version_for-version.result (steps plan) ∙ ap length (sym c.plan-plan.ensures.value)

pub join-requires-clause-few : goal.join-requires-clause-few
join-requires-clause-few c =
    let plan = c.args.checked.now.plan in
    let few = sym (c.if-not-has_few_actions.ensures ∙ ap (λ p. has_few_actions p c.args.dwell) c.plan-plan.ensures.value) in
    rows_fit plan c.args.deps c.args.dwell c.version_for-version.result c.deref-2.result.now c.plan-plan.ensures.checked.limits few c.version_for-version.ensures (c.deref-2.ensures.value ∙ c.in_ok-actions.ensures)

pub returns-clause-spelled : goal.returns-clause-spelled
returns-clause-spelled c =
    let plan = c.args.checked.now.plan in
    let deps = c.args.deps in
    let dwell = c.args.dwell in
    let v = c.version_for-version.result in
    let p = compiled_staying plan deps dwell in
    let read = c.plan-plan.ensures in
    let few = sym (c.if-not-has_few_actions.ensures ∙ ap (λ q. has_few_actions q dwell) read.value) in
    let rows = c.deref-2.ensures.value ∙ c.in_ok-actions.ensures in
    let is = c.in_ok-bytes.ensures deps (rows ∙ ap (λ (q : Plan). all_bytes_by q deps v (steps q)) (sym read.value)) ∙ ap (λ (q : Plan). spelling v (compiled_staying q deps dwell)) read.value in
    let agents = c.agents.ensures.count ∙ ap length read.value ∙ sym (length-staying plan deps dwell) in
    let moves = c.actions_in-moves.ensures ∙ rows_total plan deps dwell v c.deref.result.now (c.deref.ensures.value ∙ c.in_ok-actions.ensures) in
    let bytes = c.programs_have_bytes.ensures in
    let spelled = shortest_bytes (is_passable c.args.checked.now.grid) c.args.checked.now.instance plan deps read.checked.free read.checked.limits bytes.first bytes.second dwell c.in_ok-bytes.bytes.items few (is ∙ ap (λ (u : Version). spelling u p) c.version_for-version.ensures) in
    c.new.ensures.of p (sym agents) (sym moves) is spelled

pub returns-clause-accepted : goal.returns-clause-accepted
returns-clause-accepted c =
    staying-accepted (is_passable c.args.checked.now.grid) c.args.checked.now.instance c.args.checked.now.plan c.plan-plan.ensures.checked.free c.args.dwell c.args.deps

pub returns-clause-first : goal.returns-clause-first
returns-clause-first c =
    let plan = c.args.checked.now.plan in
    let deps = c.args.deps in
    let dwell = c.args.dwell in
    let v = c.version_for-version.result in
    let read = c.plan-plan.ensures in
    let few = sym (c.if-not-has_few_actions.ensures ∙ ap (λ q. has_few_actions q dwell) read.value) in
    let rows = c.deref-2.ensures.value ∙ c.in_ok-actions.ensures in
    let is = c.in_ok-bytes.ensures deps (rows ∙ ap (λ (q : Plan). all_bytes_by q deps v (steps q)) (sym read.value)) ∙ ap (λ (q : Plan). spelling v (compiled_staying q deps dwell)) read.value in
    let bytes = c.programs_have_bytes.ensures in
    λ none. rw c.new.ensures.bytes (first_bytes (is_passable c.args.checked.now.grid) c.args.checked.now.instance plan deps read.checked.free read.checked.limits bytes.first bytes.second dwell none c.in_ok-bytes.bytes.items few (is ∙ ap (λ (u : Version). spelling u (compiled_staying plan deps dwell)) c.version_for-version.ensures))

pub returns-clause-equally : goal.returns-clause-equally
returns-clause-equally c =
    λ other. stay_alike (is_passable c.args.checked.now.grid) c.args.checked.now.instance c.args.checked.now.plan c.plan-plan.ensures.checked.free c.args.dwell c.args.deps other
