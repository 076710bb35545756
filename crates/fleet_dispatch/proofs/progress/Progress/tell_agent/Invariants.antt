use Rattle.fleet_dispatch.proofs.Cited.{◌≡◌, ◌+◌, ◌-◌, ◌*◌, ◌≤◌, ◌++◌, length, take, count_of, agent_orders, MayBeTold, HasRows}
use Rattle.fleet_dispatch.proofs.Steps.{IsAgentTold}
use Rattle.fleet_dispatch.proofs.progress.Progress.tell_agent.Given as goal

abbrev pub invariant-actions : goal.invariant-actions
invariant-actions g l =
    let p = g.P.ProgramView.program l.program in
    record {
      told : IsAgentTold p l.fn.self l.self l.i (count_of l.self.told l.i);
      rows : HasRows p l.self;
      waiting : l.self.waiting ≡ l.fn.self.waiting;
      may : MayBeTold p l.pace.ahead l.fn.self.done l.i (count_of l.self.told l.i);
      rises : count_of l.fn.self.told l.i ≤ count_of l.self.told l.i;
      at : l.at ≤ l.fn.at + 73 * (count_of l.self.told l.i - count_of l.fn.self.told l.i);
      row : length l.row ≡ length l.fn.row;
      written : take l.at l.row ≡ take l.fn.at l.fn.row ++ agent_orders p l.pace.form l.i (count_of l.fn.self.told l.i) (count_of l.self.told l.i);
    }

abbrev pub decreases-actions : goal.decreases-actions
decreases-actions g l = l.last - count_of l.self.told l.i
