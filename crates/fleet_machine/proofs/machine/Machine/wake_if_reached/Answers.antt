use Rattle.fleet_machine.proofs.Waking.{woken_if, not_woken}
use Rattle.fleet_machine.proofs.machine.Machine.wake_if_reached.Goals as goal

pub returns-then-is_early : goal.returns-then-is_early
returns-then-is_early c =
    not_woken c.args.j c.args.count c.list_of-list.result c.args.self.now c.requires.count c.list_of-list.ensures (rw c.least_count.ensures at c.if-is_early.true)

pub returns : goal.returns
returns c =
    woken_if c.args.j c.args.count c.list_of-list.result c.args.self.now c.requires.count c.list_of-list.ensures c.wake.new.self (rw c.least_count.ensures at c.if-is_early.false) c.wake.ensures
