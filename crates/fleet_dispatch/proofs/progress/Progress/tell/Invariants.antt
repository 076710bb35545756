use Rattle.fleet_dispatch.proofs.Cited.{◌≡◌, ◌-◌, ◌*◌, ◌≤◌, ◌<◌, ℕ, false, length, take, flat_map, range_with_len, flag_of, count_of, agent_orders, Leads}
use Rattle.fleet_dispatch.proofs.progress.Progress.tell.Given as goal

abbrev pub invariant-agents : goal.invariant-agents
invariant-agents g l =
    let p = g.P.ProgramView.program l.program in
    record {
      leads : Leads p l.pace.ahead l.self;
      done : l.self.done ≡ l.fn.self.done;
      from : l.from ≤ length p;
      passed : (j : ℕ) → j < l.from → flag_of l.self.due j ≡ false;
      later : (j : ℕ) → l.from ≤ j → count_of l.self.told j ≡ count_of l.fn.self.told j;
      at : l.at ≤ 73 * l.pace.ahead * l.from;
      row : length l.row ≡ length l.fn.row;
      written : take l.at l.row ≡ flat_map (λ j. agent_orders p l.pace.form j (count_of l.fn.self.told j) (count_of l.self.told j)) (range_with_len 0 l.from);
    }

abbrev pub decreases-agents : goal.decreases-agents
decreases-agents g l = length (g.P.ProgramView.program l.program) - l.from
