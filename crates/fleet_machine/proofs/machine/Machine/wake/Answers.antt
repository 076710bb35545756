use Rattle.fleet_machine.proofs.Waking.{not_yet, one_woken, all_woken, fewer_woken}
use Rattle.fleet_machine.proofs.machine.Machine.wake.Goals as goal

pub loop-init : goal.loop-init
loop-init c = not_yet c.args.j c.args.self.now

pub loop-preserved : goal.loop-preserved
loop-preserved c = one_woken c.args.j c.args.self.now c.loop.self c.wake_first.new.self c.wake_first.result c.loop.invariant c.loop-test.ensures c.wake_first.ensures.some

pub loop-smaller : goal.loop-smaller
loop-smaller c = fewer_woken c.args.j c.loop.self c.wake_first.new.self c.wake_first.result c.loop-test.ensures c.wake_first.ensures.some

pub returns : goal.returns
returns c =
    all_woken c.args.j 4294967295 c.args.self.now c.loop.self c.wake_first.new.self c.forget.new.self c.wake_first.result c.loop.invariant c.loop-test.ensures
    c.wake_first.ensures.none c.wake_first.ensures.same c.forget.ensures
