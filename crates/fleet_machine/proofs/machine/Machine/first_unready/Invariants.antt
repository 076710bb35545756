use Rattle.std.proofs.Common.{ℕ, ◌<◌, ◌≤◌, ◌-◌, length, IsTrue}
use Rattle.fleet_model.specs.Machine.{is_ready}
use Rattle.fleet_machine.specs.Machine.{flag_of}
use Rattle.fleet_machine.proofs.machine.Machine.first_unready.Given as goal

-- the agents so far are ready, where they are flagged
abbrev pub invariant-loop-i : goal.invariant-loop-i
invariant-loop-i g l = record {
  sent : (j : ℕ) → j < l.from → IsTrue (flag_of l.done j) → IsTrue (is_ready (g.P.ProgramView.program l.program) l.self.configuration j);
  within : l.from ≤ length l.done;
}

abbrev pub decreases-loop-i : goal.decreases-loop-i
decreases-loop-i g l = length l.done - l.from
