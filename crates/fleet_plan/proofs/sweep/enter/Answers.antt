use Rattle.fleet_plan.proofs.Words.{◌≡◌, ℕ, length, slice_index, value_in}
use Rattle.fleet_plan.proofs.RowLaws.{but_begins, but_more, but_ends}
use Rattle.fleet_plan.proofs.sweep.enter.Goals as goal

pub loop-i-init : goal.loop-i-init
loop-i-init c = but_begins c.args.agents.now (length c.args.places.now) (λ (k : ℕ). value_in c.args.table.now (slice_index c.args.places.now k) ≡ k) c.requires.others

pub loop-i-preserved : goal.loop-i-preserved
loop-i-preserved c =
    let places = c.args.places.now in
    but_more c.args.agents.now c.loop-i.i-index (length places) (λ (k : ℕ). value_in c.loop-i.table (slice_index places k) ≡ k) (λ (k : ℕ). value_in c.enter_one.new.table (slice_index places k) ≡ k) c.loop-i.invariant
    (c.in_ok-enter_one.ensures c.if-not-branch.false).here (λ j l ne was. (c.in_ok-enter_one.ensures c.if-not-branch.false).others j l was)

pub returns : goal.returns
returns c = λ alone. but_ends c.args.agents.now c.loop-i.i-index (length c.args.places.now) (λ (k : ℕ). value_in c.loop-i.table (slice_index c.args.places.now k) ≡ k) c.loop-i.invariant c.loop-i-test.false
