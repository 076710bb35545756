use Rattle.fleet_adg.proofs.Words.{◌++◌, get_or, replicate, ap, ◌∙◌, arith, agent, cell_of, stay}
use Rattle.fleet_adg.proofs.Joined.{join_more, join_all}
use Rattle.fleet_adg.proofs.compiler.join.Goals as goal

pub loop-i-preserved : goal.loop-i-preserved
loop-i-preserved c = λ deps all.
    let plan = c.args.plan.now in
    let v = c.args.version in
    let i = c.loop-i.i in
    let rows = c.args.rows.now in
    let row = c.index-rows-from.result in
    let out = c.loop-i.out.items in
    let end = c.cell-goal.ensures ∙ ap (cell_of plan i) c.steps-end.ensures.time in
    join_more plan deps v c.args.stays i rows row c.in_ok-out.out.items out c.put_agent.new.out.items all
    (omega (arith, c.loop-i-test.true, c.loop-i.auto.i-end, c.agents-i-end.ensures.count))
    (c.index-rows-from.is ∙ ap (λ n. get_or rows n row) c.from.ensures)
    (c.loop-i.invariant deps all)
    (λ actions is. c.in_ok-put_agent.ensures actions is ∙ (λ t. out ++ agent v (record { start = c.cell-start.ensures t; goal = end t; actions = actions ++ replicate c.args.stays stay })))

pub returns : goal.returns
returns c = λ deps all.
    join_all c.args.plan.now deps c.args.version c.args.stays c.loop-i.i c.agents.result c.loop-i.out.items c.in_ok-out.out.items
    (omega (arith, c.loop-i-test.false, c.loop-i.auto.i-end, c.agents-i-end.ensures.count))
    c.agents.ensures.count c.in_ok-out.ensures (c.loop-i.invariant deps all)
