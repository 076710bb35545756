use Rattle.std.proofs.lemmas.Grind.{common_steps}
use Rattle.fleet_needs.proofs.Words.{◌+◌, ℕ, arith, ◌∙◌, ap, inl, inr, refl, subst, sym, cases_lt, HasSlotNow, Need, TakesIn, need_at, rows_in}
use Rattle.fleet_needs.proofs.{Counting.count_read, Slotting.held_on, Slotting.join_settled, Slotting.row_ended}
use Rattle.fleet_needs.proofs.schedule.Slots.settle.Goals as goal

pub hold-requires-2 : goal.hold-requires-2
hold-requires-2 c = omega (arith, c.base.ensures, c.requires.order.sooner c.args.n _ (omega (arith, c.requires.upto), inl refl), c.in_ok-hold.ensures.rows, ap rows_in c.self.view_is, c.requires.rows)

pub loop-x-init : goal.loop-x-init
loop-x-init c =
    let s = c.args.joins.now in
    let n = c.args.n in
    let mid = rw (sym c.self.view_is) at c.in_ok-hold.ensures in
    let h = c.in_ok-hold-2.ensures in
    let slot = count_read c.self.inside.outs.items (n + 1) (n + 1) c.index-slot.result.now refl (omega (arith, c.requires.upto, c.requires.rows, mid.rows)) c.index-slot.ensures in
    record {
      rows = h.rows ∙ mid.rows;
      slotted = held_on (TakesIn s) (n + 1) n c.base.result _ c.hold-2.new.self (omega (arith, c.base.ensures, c.requires.order.sooner n _ (omega (arith, c.requires.upto), inl refl))) h (row_ended (TakesIn s) n c.args.self.now _ mid c.index-slot.result.now slot c.requires.slotted);
      base = subst (HasSlotNow c.hold-2.new.self) c.base.ensures h.here;
      each = λ y from less. absurd (omega (arith, from, less, c.end-x.ensures));
    }

pub hold-requires-in-loop-x : goal.hold-requires-in-loop-x
hold-requires-in-loop-x c =
    let low = c.requires.order.sooner c.args.n _ (omega (arith, c.requires.upto), inr (c.loop-x.x, omega (arith, c.loop-x.auto.x, c.end-x.ensures), omega (arith, c.loop-x-test.true, c.end-x-end.ensures), refl)) in
    omega (arith, ap (λ (y : Need). y.row) c.need.ensures, low, c.loop-x.invariant.rows, c.requires.rows)

pub loop-x-preserved : goal.loop-x-preserved
loop-x-preserved c =
    let s = c.args.joins.now in
    let n = c.args.n in
    let x : ℕ = c.loop-x.x in
    let low = c.requires.order.sooner n _ (omega (arith, c.requires.upto), inr (x, omega (arith, c.loop-x.auto.x, c.end-x.ensures), omega (arith, c.loop-x-test.true, c.end-x-end.ensures), refl)) in
    let is = ap (λ (y : Need). y.row) c.need.ensures in
    let new = c.hold-in-loop-x.new.self in
    let h = c.in_ok-hold-3.ensures in
    let was = c.loop-x.invariant in
    record {
      rows = h.rows ∙ was.rows;
      slotted = held_on (TakesIn s) (n + 1) n c.need.result.row c.loop-x.self new (omega (arith, is, low)) h was.slotted;
      base = (h.kept _ was.base).0;
      each = λ y first last. elim (cases_lt y x) [
        | inl sooner ↦ (h.kept _ (was.each y first sooner)).0
        | inr later ↦ subst (HasSlotNow new) (is ∙ ap (λ (z : ℕ). (need_at s z).row) (omega (arith, later, last))) h.here
      ];
    }

pub returns : goal.returns
returns c =
    let was = c.loop-x.invariant in
    record {
      order = c.requires.order;
      upto = omega (arith, c.requires.upto);
      rows = was.rows ∙ c.requires.rows;
      slotted = join_settled c.args.joins.now c.args.n c.loop-x.self was.base (λ y from less. was.each y from (omega (arith, less, c.loop-x-test.false, c.end-x-end.ensures))) was.slotted;
    }

pub index_mut-requires : goal.index_mut-requires
index_mut-requires c = grind (arith, common_steps)
