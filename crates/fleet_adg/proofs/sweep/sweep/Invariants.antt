use Rattle.fleet_adg.proofs.Words.{◌≡◌, ◌<◌, All, length, filter, kind_of, AreLeavingsAt, under_way, all_bytes_by, is_under_way}
use Rattle.fleet_adg.proofs.sweep.sweep.Given as goal

abbrev pub invariant-loop-time : goal.invariant-loop-time
invariant-loop-time l = record {
  agents : filter (is_under_way l.plan l.time) l.agents.items ≡ under_way l.plan l.time;
  below : All (λ i. i < length l.plan) l.agents.items;
  leavings : AreLeavingsAt l.grid l.plan (kind_of l.fn.leavings) l.time l.leavings;
  actions : l.actions ≡ all_bytes_by l.plan (kind_of l.fn.leavings) l.version l.time;
}
