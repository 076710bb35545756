use Rattle.fleet_verify.proofs.Words.{◌≡◌, ◌+◌, ◌≤◌, ap, ℕ, arith, is_move, next_move, past_moves}
use Rattle.fleet_verify.proofs.Leaving.{left_by, in_still}
use Rattle.fleet_verify.proofs.order.leaving.Goals as goal

pub returns-in-Go : goal.returns-in-Go
returns-in-Go g c =
    let p = g.P.ProgramView.program c.args.program.now in
    let v = c.args.visit in
    let h : next_move p v.agent v.position ≤ c.loop-finished.finished + 1 = left_by p v.agent v.position c.loop-finished.finished c.step.result c.step.ensures (ap is_move c.in-Go.is) c.loop-finished.invariant.from in
    let e : c.loop-finished.finished + 1 ≡ next_move p v.agent v.position = omega (arith, c.loop-finished.invariant.staying) in
    ap (λ (n : ℕ). record { agent = v.agent; number = n }) e

pub loop-finished-preserved : goal.loop-finished-preserved
loop-finished-preserved g c = record {
  from = omega (arith, c.loop-finished.invariant.from);
  staying = in_still (g.P.ProgramView.program c.args.program.now) c.args.visit.agent c.args.visit.position c.loop-finished.finished c.step.result c.step.ensures (ap is_move c.in-Dwell.is) c.loop-finished.invariant.from c.loop-finished.invariant.staying;
}

pub returns : goal.returns
returns g c =
    let p = g.P.ProgramView.program c.args.program.now in
    let v = c.args.visit in
    let h : next_move p v.agent v.position ≤ c.loop-finished.finished + 1 = past_moves p v.agent v.position c.loop-finished.finished c.loop-finished.invariant.from (omega (arith, c.moves-moves.ensures)) in
    let e : c.moves-moves.result + 1 ≡ next_move p v.agent v.position = omega (arith, c.loop-finished.invariant.staying, c.requires.position, c.moves-moves.ensures) in
    ap (λ (n : ℕ). record { agent = v.agent; number = n }) e
