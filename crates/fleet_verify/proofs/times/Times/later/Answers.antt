use Rattle.fleet_verify.proofs.Words.{◌≡◌, refl, sym, subst, ◌∙◌, arith, inl, inr, same_Some, none-some, IsAction, IsCriticalCost}
use Rattle.fleet_verify.proofs.Timed.{one_cost}
use Rattle.fleet_verify.proofs.CriticalPaths.{some_from}
use Rattle.fleet_verify.proofs.times.Times.later.Goals as goal

pub returns-in_default : goal.returns-in_default
returns-in_default g c =
    let p = g.P.ProgramView.program c.args.self.now.program in
    let cost = g.C.ActionCosts.cost c.args.self.now.costs in
    record {
      action = c.requires.second;
      one = inr refl;
      after_second = λ m n x y. (let e = one_cost p cost c.args.second m n x y in omega (arith, e));
      after_first = λ b m n e x y. absurd (none-some b (sym c.in_default.is ∙ e));
    }

pub returns-then-own-other : goal.returns-then-own-other
returns-then-own-other g c =
    let p = g.P.ProgramView.program c.args.self.now.program in
    let cost = g.C.ActionCosts.cost c.args.self.now.costs in
    record {
      action = some_from (IsAction p) c.args.first c.requires.first c.in-Some.action c.in-Some.is;
      one = inl c.in-Some.is;
      after_second = λ m n x y. (let e = one_cost p cost c.args.second m c.end-own.result x c.end-own.ensures in let f = one_cost p cost c.in-Some.action n c.end-other.result y c.end-other.ensures in omega (arith, e, f, c.if-own-other.true));
      after_first = λ b m n e x y.
          let same : b ≡ c.in-Some.action = same_Some b c.in-Some.action (sym e ∙ c.in-Some.is) in
          let f = one_cost p cost c.in-Some.action m n (subst (λ a. IsCriticalCost p cost a m) same x) y in
          omega (arith, f);
    }

pub returns-else-own-other : goal.returns-else-own-other
returns-else-own-other g c =
    let p = g.P.ProgramView.program c.args.self.now.program in
    let cost = g.C.ActionCosts.cost c.args.self.now.costs in
    record {
      action = c.requires.second;
      one = inr refl;
      after_second = λ m n x y. (let e = one_cost p cost c.args.second m n x y in omega (arith, e));
      after_first = λ b m n e x y.
          let same : b ≡ c.in-Some.action = same_Some b c.in-Some.action (sym e ∙ c.in-Some.is) in
          let f = one_cost p cost c.in-Some.action m c.end-other.result (subst (λ a. IsCriticalCost p cost a m) same x) c.end-other.ensures in
          let h = one_cost p cost c.args.second n c.end-own.result y c.end-own.ensures in
          omega (arith, f, h, c.if-own-other.false);
    }
