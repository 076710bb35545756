use Rattle.fleet_dispatch.proofs.Cited.{◌≡◌, ◌<◌, ℕ, true, nat_lt, moves, flag_of, count_of, HasRows}
use Rattle.fleet_dispatch.proofs.progress.Progress.mark_all.Given as goal

abbrev pub invariant-loop-i : goal.invariant-loop-i
invariant-loop-i g l =
    let p = g.P.ProgramView.program l.program in
    record {
      same : l.self ≡ record l.fn.self { due = l.self.due; left = l.self.left };
      rows : HasRows p l.self;
      due : (j : ℕ) → j < l.i → flag_of l.self.due j ≡ true;
      left : (j : ℕ) → j < l.i → flag_of l.self.left j ≡ nat_lt (count_of l.fn.self.done j) (moves p j);
    }
