use Rattle.fleet_verify.proofs.Words.{◌≡◌, ℕ, ◌+◌, ap, subst, arith, inl, inr, cases_lt, moves, IsCriticalCost, TimesParts}
use Rattle.fleet_verify.proofs.times.Times.free_count.Goals as goal

pub loop-finished-preserved : goal.loop-finished-preserved
loop-finished-preserved g c =
    let p = g.P.ProgramView.program c.args.self.now.program in
    let cost = g.C.ActionCosts.cost c.args.self.now.costs in
    let zero_end : c.end-end.result ≡ 0 = omega (arith, c.if-is_late.false) in
    let here = subst (IsCriticalCost p cost (record { agent = c.args.i; number = c.loop-finished.finished + 1 })) zero_end c.end-end.ensures in
    record {
      free = λ m some l. elim (cases_lt c.loop-finished.finished m) [
        | inl s ↦ (let e : c.loop-finished.finished + 1 ≡ m = omega (arith, s, l) in subst (λ (n : ℕ). IsCriticalCost p cost (record { agent = c.args.i; number = n }) 0) e here)
        | inr s ↦ c.loop-finished.invariant.free m some s
      ];
    }

pub returns : goal.returns
returns g c =
    let same = ap (λ (t : TimesParts _ _). moves (g.P.ProgramView.program t.program) c.args.i) c.self.view_is in
    record {
      within = omega (arith, same, c.moves-moves.ensures);
      free = λ m some l. c.loop-finished.invariant.free m some (omega (arith, l, c.loop-finished-test.false));
      next = λ l. absurd (omega (arith, l, same, c.moves-moves.ensures));
    }

pub returns-then-is_late : goal.returns-then-is_late
returns-then-is_late g c =
    let same = ap (λ (t : TimesParts _ _). moves (g.P.ProgramView.program t.program) c.args.i) c.self.view_is in
    record {
      within = omega (arith, same, c.loop-finished-test.true, c.moves-moves.ensures);
      free = c.loop-finished.invariant.free;
      next = λ _. (c.end-end.result, omega (arith, c.if-is_late.true), c.end-end.ensures);
    }
