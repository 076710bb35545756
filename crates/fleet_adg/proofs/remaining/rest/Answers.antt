use Rattle.fleet_adg.proofs.Words.{◌≡◌, ◌+◌, drop, sym, ap, subst, ◌∙◌, Program, IsWellFormed, Configuration, IsReached, run, place_at, count_at, IsAccepted, is_passable, IsGround, StandOn, cell_at, rest, rest_tasks}
use Rattle.fleet_adg.proofs.RestMade.{on_way, stand_on, cells_are}
use Rattle.fleet_adg.proofs.remaining.rest.Goals as goal

pub rest_agents-requires : goal.rest_agents-requires
rest_agents-requires g c =
    let same = ap g.P.ProgramView.program c.program-program.ensures.program in
    let st = c.args.standings.now in
    on_way c.args.accepted.now.grid c.args.accepted.now.instance (g.P.ProgramView.program c.program-program.result.now) st (subst IsGround c.grid.ensures c.width.ensures.sizes)
    c.agents.ensures.well_formed c.program-program.ensures.accepted.accepted (subst (λ (x : Program). IsReached x st) (sym same) c.requires)

pub new-requires : goal.new-requires
new-requires g c =
    let same = ap g.P.ProgramView.program c.program-program.ensures.program in
    let st = c.args.standings.now in
    let p = g.P.ProgramView.program c.program-program.result.now in
    let way = on_way c.args.accepted.now.grid c.args.accepted.now.instance p st (subst IsGround c.grid.ensures c.width.ensures.sizes)
    c.agents.ensures.well_formed c.program-program.ensures.accepted.accepted (subst (λ (x : Program). IsReached x st) (sym same) c.requires) in
    subst IsWellFormed (sym c.in_ok-agents.ensures) (c.rests_are_well_formed.ensures p c.agents.ensures.well_formed st (cell_at st) (cells_are p st way))

pub returns-clause-rest : goal.returns-clause-rest
returns-clause-rest g c =
    let same = ap g.P.ProgramView.program c.program-program.ensures.program in
    let st = c.args.standings.now in
    c.new.ensures ∙ (c.in_ok-agents.ensures ∙ ap (λ (x : Program). rest (cell_at st) x st) same)

pub returns-clause-stand : goal.returns-clause-stand
returns-clause-stand g c =
    let same = ap g.P.ProgramView.program c.program-program.ensures.program in
    let st = c.args.standings.now in
    let p = g.P.ProgramView.program c.program-program.result.now in
    let way = on_way c.args.accepted.now.grid c.args.accepted.now.instance p st (subst IsGround c.grid.ensures c.width.ensures.sizes)
    c.agents.ensures.well_formed c.program-program.ensures.accepted.accepted (subst (λ (x : Program). IsReached x st) (sym same) c.requires) in
    subst (λ (x : Program). StandOn x st (cell_at st)) same (stand_on p st way)

pub returns-clause-accepted : goal.returns-clause-accepted
returns-clause-accepted g c =
    let same = ap g.P.ProgramView.program c.program-program.ensures.program in
    let st = c.args.standings.now in
    let p = g.P.ProgramView.program c.program-program.result.now in
    let passable = is_passable c.args.accepted.now.grid in
    let reached = subst (λ (x : Program). IsReached x st) (sym same) c.requires in
    let ok = c.program-program.ensures.accepted.accepted in
    let way = on_way c.args.accepted.now.grid c.args.accepted.now.instance p st (subst IsGround c.grid.ensures c.width.ensures.sizes) c.agents.ensures.well_formed ok reached in
    let left = c.rests_are_accepted.ensures passable c.args.accepted.now.instance p ok st reached (cell_at st) (stand_on p st way) in
    let here = subst (λ (q : Program). IsAccepted passable (rest_tasks (cell_at st) p) q) (sym (c.new.ensures ∙ c.in_ok-agents.ensures)) left in
    subst (λ (x : Program). IsAccepted passable (rest_tasks (cell_at st) x) c.new.result) same here

pub returns-clause-runs_on : goal.returns-clause-runs_on
returns-clause-runs_on g c = λ holds x e t i l.
    let same = ap g.P.ProgramView.program c.program-program.ensures.program in
    let st = c.args.standings.now in
    let q = g.P.ProgramView.program c.program-program.result.now in
    let p = g.P.ProgramView.program c.args.accepted.now.program in
    let way = on_way c.args.accepted.now.grid c.args.accepted.now.instance q st (subst IsGround c.grid.ensures c.width.ensures.sizes)
    c.agents.ensures.well_formed c.program-program.ensures.accepted.accepted (subst (λ (y : Program). IsReached y st) (sym same) c.requires) in
    let stand = subst (λ (y : Program). StandOn y st (cell_at st)) same (stand_on q st way) in
    let is : c.new.result ≡ rest (cell_at st) p st = c.new.ensures ∙ (c.in_ok-agents.ensures ∙ ap (λ (y : Program). rest (cell_at st) y st) same) in
    let on = c.rests_run_on.ensures p holds x (cell_at st) (subst (λ (d : Configuration). StandOn p d (cell_at st)) (sym e) stand) t i l in
    let there = subst (λ (d : Configuration). (place_at (run p holds (x + t)) i ≡ place_at (run (rest (cell_at st) p d) (drop x holds) t) i) × (count_at (run p holds (x + t)) i ≡ count_at d i + count_at (run (rest (cell_at st) p d) (drop x holds) t) i)) e on in
    subst (λ (y : Program). (place_at (run p holds (x + t)) i ≡ place_at (run y (drop x holds) t) i) × (count_at (run p holds (x + t)) i ≡ count_at st i + count_at (run y (drop x holds) t) i)) (sym is) there
