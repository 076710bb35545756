use Rattle.fleet_verify.proofs.Words.{sym, ◌∙◌, arith, is_passable, ◌≡◌, true, subst, place_of, Cell, false≢true}
use Rattle.fleet_verify.proofs.Beginning.{beginning_first, beginning_more, beginning_all}
use Rattle.fleet_verify.proofs.ahead.begin.Goals as goal

pub loop-agent-init : goal.loop-agent-init
loop-agent-init g c =
    let p = g.P.ProgramView.program c.args.program.now in
    let made = c.empty-ahead.ensures in
    beginning_first (is_passable c.args.grid.now) p c.empty-ahead.result made.rows made.cells (made.added p)

pub loop-agent-preserved : goal.loop-agent-preserved
loop-agent-preserved g c =
    let p = g.P.ProgramView.program c.args.program.now in
    let made = c.in_ok-begin_agent.ensures in
    beginning_more (is_passable c.args.grid.now) p c.loop-agent.agent c.loop-agent.ahead c.begin_agent.new.ahead c.start-cell.result c.loop-agent.invariant
    (omega (arith, c.agents-agents.ensures.count)) c.start-cell.ensures (sym c.passable.ensures.value ∙ c.if-not-passable.false) made.rows made.cells made.added

pub returns-clause-ahead : goal.returns-clause-ahead
returns-clause-ahead g c =
    beginning_all (is_passable c.args.grid.now) (g.P.ProgramView.program c.args.program.now) c.loop-agent.agent c.loop-agent.ahead c.loop-agent.invariant
    (omega (arith, c.agents-agents.ensures.count))

pub returns-then-not-passable-clause-stop : goal.returns-then-not-passable-clause-stop
returns-then-not-passable-clause-stop g c = λ steps.
    let i = c.loop-agent.agent in
    let right : is_passable c.args.grid.now (place_of c.start-cell.result) ≡ true =
    subst (λ (x : Cell). is_passable c.args.grid.now (place_of x) ≡ true) (sym c.start-cell.ensures) (steps i 0 (omega (arith, c.agents-agents.ensures.count)) (omega arith)) in
    false≢true (sym c.if-not-passable.true ∙ (c.passable.ensures.value ∙ right))
