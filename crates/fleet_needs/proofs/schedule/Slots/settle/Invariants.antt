use Rattle.fleet_needs.proofs.Words.{◌≡◌, ◌+◌, ◌<◌, ◌≤◌, ℕ, AreSlotted, HasSlotNow, TakesIn, base_of, end_of, need_at, rows_in}
use Rattle.fleet_needs.proofs.schedule.Slots.settle.Given as goal

abbrev pub invariant-loop-x : goal.invariant-loop-x
invariant-loop-x l = record {
  rows : rows_in l.self ≡ rows_in l.fn.self;
  slotted : AreSlotted (TakesIn l.joins) (l.n + 1) l.n l.self;
  base : HasSlotNow l.self (base_of l.joins l.n);
  each : (y : ℕ) → end_of l.joins l.n ≤ y → y < l.x → HasSlotNow l.self (need_at l.joins y).row;
}
