use Rattle.fleet_adg.proofs.ThinnedBytes.{adds_action}
use Rattle.fleet_adg.proofs.thinner.put_actions.Goals as goal

pub loop-finished-preserved : goal.loop-finished-preserved
loop-finished-preserved g c = record {
  at = c.in_ok-at.ensures.after;
  put = adds_action c.args.version (g.P.ProgramView.program c.args.program.now) c.args.i c.loop-finished.finished c.args.out.now.items c.loop-finished.out.items c.put_action.new.out.items c.loop-finished.invariant.put c.in_ok-at.ensures.put;
}
