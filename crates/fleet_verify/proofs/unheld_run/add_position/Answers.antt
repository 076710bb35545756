use Rattle.fleet_verify.proofs.Words.{◌≡◌, false, ap, sym, ◌∙◌, subst, arith, IsTrue, Place, Standing, path, count_at, is_passable}
use Rattle.fleet_verify.proofs.UnderWay.{on_path, within_moves}
use Rattle.fleet_verify.proofs.unheld_run.add_position.Goals as goal

pub returns-in_default-clause-stop : goal.returns-in_default-clause-stop
returns-in_default-clause-stop g c = λ steps.
    let p = g.P.ProgramView.program c.args.program.now in
    let d = c.args.machine.now.configuration in
    let i = c.args.agent in
    let here : c.agent-count.result.place ≡ path p i (count_at d i) = ap (λ (s : Standing). s.place) c.agent-count.ensures.standing ∙ on_path p d c.requires.reached i c.requires.agent in
    let stands = steps i (count_at d i) c.requires.agent (within_moves p d c.requires.reached i) in
    let blocked : is_passable c.args.grid.now (path p i (count_at d i)) ≡ false = subst (λ (q : Place). is_passable c.args.grid.now q ≡ false) here c.in_default.ensures.none in
    absurd cc

pub add_visit-requires-clause-position : goal.add_visit-requires-clause-position
add_visit-requires-clause-position g c =
    omega (arith, within_moves (g.P.ProgramView.program c.args.program.now) c.args.machine.now.configuration c.requires.reached c.args.agent, ap (λ (s : Standing). s.count) c.agent-count.ensures.standing)

pub add_visit-requires-clause-here : goal.add_visit-requires-clause-here
add_visit-requires-clause-here g c =
    c.in-Some.ensures.some.0
    ∙ (ap (λ (s : Standing). s.place) c.agent-count.ensures.standing
    ∙ (on_path (g.P.ProgramView.program c.args.program.now) c.args.machine.now.configuration c.requires.reached c.args.agent c.requires.agent
    ∙ sym (ap (λ (s : Standing). path (g.P.ProgramView.program c.args.program.now) c.args.agent s.count) c.agent-count.ensures.standing)))

pub returns-clause-on_ground : goal.returns-clause-on_ground
returns-clause-on_ground g c =
    let p = g.P.ProgramView.program c.args.program.now in
    let d = c.args.machine.now.configuration in
    let here : c.agent-count.result.place ≡ path p c.args.agent (count_at d c.args.agent) = ap (λ (s : Standing). s.place) c.agent-count.ensures.standing ∙ on_path p d c.requires.reached c.args.agent c.requires.agent in
    subst (λ (q : Place). IsTrue (is_passable c.args.grid.now q)) here c.in-Some.ensures.some.1
