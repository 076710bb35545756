use Rattle.fleet_adg.proofs.Words.{◌++◌, length, magic, two_bytes}
use Rattle.fleet_adg.proofs.ThinnedBytes.{adds_agent}
use Rattle.fleet_adg.proofs.thinner.thinned_bytes.Goals as goal

pub loop-i-preserved : goal.loop-i-preserved
loop-i-preserved g c =
    let p = g.P.ProgramView.program c.args.program.now in
    adds_agent c.args.version p c.loop-i.i c.moves.result c.start-start.result c.goal-goal.result (magic c.args.version ++ two_bytes (length p)) c.loop-i.out.items c.begin_agent.new.out.items c.put_actions.new.out.items
    c.start-start.ensures c.goal-goal.ensures c.moves.ensures c.loop-i.invariant c.in_ok-begin_agent.ensures c.in_ok-put_actions.ensures
