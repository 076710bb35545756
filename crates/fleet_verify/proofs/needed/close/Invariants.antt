use Rattle.fleet_verify.proofs.Words.{◌≤◌, IsLooking, looked_sum}
use Rattle.fleet_verify.proofs.needed.close.Given as goal

abbrev pub invariant-loop-round : goal.invariant-loop-round
invariant-loop-round g l =
    let p = g.P.ProgramView.program l.program in
    record {
      looking : IsLooking p l.fn.first l.fn.second l.needed l.looked;
      rounds : l._round ≤ looked_sum p l.looked;
    }
