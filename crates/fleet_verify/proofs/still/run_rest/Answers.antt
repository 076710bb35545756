use Rattle.fleet_verify.proofs.FewerLeft.{fewer_left}
use Rattle.fleet_verify.proofs.still.run_rest.Goals as goal

pub loop-agent-smaller : goal.loop-agent-smaller
loop-agent-smaller g c =
    let found = c.in-Some.ensures in
    let ran = c.in_ok-run_agent.ensures.ran in
    fewer_left (g.P.ProgramView.program c.args.program.now) c.loop-agent.ahead.rows.items c.run_agent.new.ahead.rows.items c.in-Some.agent c.in_ok-run_agent.field-0
    found.agent (ran.ahead.ranked.within c.in-Some.agent) found.goes_on ran.stopped ran.run_on
