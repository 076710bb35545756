use Rattle.std.proofs.Common.{ℕ, arith, length-take, length-drop}
use Rattle.fleet_text.proofs.SinkLemmas.{appends_piece}
use Rattle.fleet_text.proofs.sink.put_all.Goals as goal

pub loop-at-preserved : goal.loop-at-preserved
loop-at-preserved g c = record {
  within = omega (arith, length-take {A = ℕ}, length-drop {A = ℕ}, c.in_ok-at.ensures.piece.1);
  so_far = record {
    taken = appends_piece _ _ _ _ _ _ c.loop-at.invariant.within c.loop-at.invariant.so_far.taken c.in_ok-at.ensures.piece.2.taken c.in_ok-at.ensures.piece.1;
    working = c.in_ok-at.ensures.piece.2.working;
  };
}
