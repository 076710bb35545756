use Rattle.fleet_needs.proofs.Words.{Contains, ◌≡◌, ◌+◌, ◌∙◌, ℕ, Bool, refl, sym, subst, ap, arith, nat_le, slice_index, set, slice_get_within, get_or_from_slice_get, awaits_of, made_row, first_await, flags_of, next_action, IsImpliedFlag}
use Rattle.fleet_needs.proofs.{Flagged.flag_passed, Flagged.flag_put, Flagged.row_flagged, AwaitOrder.flagged, RowsMade.row_here}
use Rattle.fleet_needs.proofs.implied.flag_row.Goals as goal

pub loop-k-preserved-in_default : goal.loop-k-preserved-in_default
loop-k-preserved-in_default g c =
    let m = c.args.rows.now in
    flag_passed (g.P.ProgramView.program c.args.program.now) m c.args.n c.loop-k.k _ (row_here m.schedule c.args.n c.requires.joined.next) c.need.result.wait c.need.ensures.await c.loop-k.implied c.requires.joined.rows.block (sym c.of.ensures ∙ c.in_default.is) c.loop-k.invariant

pub loop-k-preserved : goal.loop-k-preserved
loop-k-preserved g c =
    let p = g.P.ProgramView.program c.args.program.now in
    let m = c.args.rows.now in
    let counts = made_row m.counts in
    let a = next_action m.schedule c.args.n in
    let k = c.loop-k.k in
    let range = c.requires.joined.rows.schedule.made.range in
    let w = c.need.result.wait in
    let ws = awaits_of p a.agent a.number in
    let at = c.need.ensures.await in
    let is = (c.requires.joined.rows.schedule.made.joins c.args.n c.requires.joined.next).is.action in
    let flag : Bool = nat_le w.count c.get.result in
    let count : c.get.result ≡ slice_index counts c.in-Some.column = c.get.ensures ∙ ap (slice_index counts) c.from.ensures in
    let known : Contains ws w = (k, slice_get_within ws k w at, get_or_from_slice_get ws k w w at) in
    let right = flagged p range a w known (c.agents.ensures.well_formed.awaits a.agent a.number) (slice_index counts c.in-Some.column) (c.requires.joined.others w.agent c.in-Some.column (sym c.of.ensures ∙ c.in-Some.is) (range a.agent a.number w known).other) is.first in
    let place : c.first.result + k ≡ first_await p a + k = omega (arith, c.first.ensures.place, ap (first_await p) c.join_after-join.ensures.of) in
    flag_put p m c.args.n k a (row_here m.schedule c.args.n c.requires.joined.next) w at c.loop-k.implied _ flag is (subst (IsImpliedFlag p a w) (ap (nat_le w.count) (sym count)) right) refl (ap (λ (n : ℕ). set (flags_of c.loop-k.implied) n flag) place)
    c.loop-k.invariant

pub returns : goal.returns
returns g c =
    let m = c.args.rows.now in
    row_flagged (g.P.ProgramView.program c.args.program.now) m c.args.n c.loop-k.k _ (row_here m.schedule c.args.n c.requires.joined.next) (omega (arith, c.loop-k-test.false, c.join_after-join.ensures.count, c.loop-k.auto.k-end)) c.loop-k.implied c.loop-k.invariant

pub get-requires : goal.get-requires
get-requires g c =
    omega (arith, c.requires.joined.rows.columns.within _ _ (sym c.of.ensures ∙ c.in-Some.is), c.requires.joined.rows.width, c.from.ensures)
