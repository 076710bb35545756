use Rattle.fleet_verify.proofs.Words.{◌≡◌, ℕ, ◌<◌, ◌≤◌, IsTrue, false, length, slice_index, Visit, moves, IsLooking, looked_sum}
use Rattle.fleet_verify.proofs.needed.look_at_next.Given as goal

abbrev pub invariant-loop-j : goal.invariant-loop-j
invariant-loop-j g l =
    let p = g.P.ProgramView.program l.program in
    record {
      wide : length l.needed ≡ length p;
      long : length l.looked ≡ length p;
      actions : (i : ℕ) → slice_index l.needed i ≤ moves p i;
      looking : (v w : Visit) → IsLooking p v w l.initial.needed l.initial.looked → IsLooking p v w l.needed l.looked;
      rises : looked_sum p l.initial.looked ≤ looked_sum p l.looked;
      some : IsTrue l.some → looked_sum p l.initial.looked < looked_sum p l.looked;
      none : l.some ≡ false → (i : ℕ) → i < l.j → slice_index l.needed i ≤ slice_index l.looked i;
    }
