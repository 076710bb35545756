use Rattle.std.proofs.Common.{rules}
use Rattle.fleet_machine.proofs.Linked.{no_chains}
use Rattle.fleet_machine.proofs.agent_set.WaitLists.new.Goals as goal

pub invariant_of-result : goal.invariant_of-result
invariant_of-result c =
    rw (c.in_ok-first.ensures.items_if_clones_equal (λ y k. search rules), c.in_ok-next.ensures.items_if_clones_equal (λ y k. search rules), c.in_ok-home.ensures.items_if_clones_equal (λ y k. search rules))
    (no_chains c.args.lists c.args.agents)
