use Rattle.fleet_verify.specs.Covers.{AreCovered}
use Rattle.fleet_verify.proofs.covers.rest_covers.Given as goal

abbrev pub invariant-loop-k : goal.invariant-loop-k
invariant-loop-k l = AreCovered l.row l.other l.from l.k
