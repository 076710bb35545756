use Rattle.fleet_verify.proofs.Words.{◌≡◌, ◌<◌, ℕ, false, length, get_or, filter, indices, is_held_by}
use Rattle.fleet_verify.proofs.breaking.held_agents.Given as goal

abbrev pub invariant-loop-i : goal.invariant-loop-i
invariant-loop-i g l =
    let test = is_held_by (g.P.ProgramView.program l.program) l.machine.configuration l.needed in
    record {
      row : l.row.items ≡ filter test (indices l.i);
      all : length l.flags ≡ length (g.P.ProgramView.program l.program);
      flags : (j : ℕ) → j < l.i → get_or l.flags j false ≡ test j;
    }
