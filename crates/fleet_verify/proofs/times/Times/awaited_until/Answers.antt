use Rattle.fleet_verify.proofs.Words.{◌≡◌, ◌+◌, ◌-◌, ◌≤◌, ℕ, length, Some, ap, subst, sym, ◌∙◌, arith, slice_get, slice_get_within, awaits_of, few_awaits_of, TimesParts}
use Rattle.fleet_needs.proofs.Joining.{awaited_action}
use Rattle.fleet_verify.proofs.CriticalPaths.{none_more, none_all, until_here}
use Rattle.fleet_verify.proofs.times.Times.awaited_until.Goals as goal

pub end-end-requires : goal.end-end-requires
end-end-requires g c =
    let p = g.P.ProgramView.program c.args.self.now.program in
    let n = c.args.action.number in
    let here = rw c.in-Await.is at c.read-reading.ensures.instruction in
    let view = ap (λ (t : TimesParts _ _). slice_get (awaits_of (g.P.ProgramView.program t.program) c.args.action.agent n) c.instructions.k) c.self.view_is in
    let same : n - 1 + 1 ≡ n = omega (arith, c.requires.first) in
    awaited_action p c.known.ensures.in_range c.args.action.agent n c.instructions.k c.in-Await.one
    (sym view ∙ subst (λ (m : ℕ). slice_get (awaits_of (g.P.ProgramView.program c.self.inside.program.now) c.args.action.agent m) c.instructions.k ≡ Some c.in-Await.one) same here)

pub returns-then-end-time-clause-some : goal.returns-then-end-time-clause-some
returns-then-end-time-clause-some g c =
    let p = g.P.ProgramView.program c.args.self.now.program in
    let n = c.args.action.number in
    let here = rw c.in-Await.is at c.read-reading.ensures.instruction in
    let view = ap (λ (t : TimesParts _ _). slice_get (awaits_of (g.P.ProgramView.program t.program) c.args.action.agent n) c.instructions.k) c.self.view_is in
    let same : n - 1 + 1 ≡ n = omega (arith, c.requires.first) in
    let at = sym view ∙ subst (λ (m : ℕ). slice_get (awaits_of (g.P.ProgramView.program c.self.inside.program.now) c.args.action.agent m) c.instructions.k ≡ Some c.in-Await.one) same here in
    until_here p (g.C.ActionCosts.cost c.args.self.now.costs) c.args.action c.args.time c.instructions.k c.end-end.result c.in-Await.one at c.end-end.ensures c.if-end-time.true

pub returns-in-Step-clause-none : goal.returns-in-Step-clause-none
returns-in-Step-clause-none g c = λ a h.
    let p = g.P.ProgramView.program c.args.self.now.program in
    let n = c.args.action.number in
    let said = rw c.in-Step.is at c.read-reading.ensures.instruction in
    let view = ap (λ (t : TimesParts _ _). length (awaits_of (g.P.ProgramView.program t.program) c.args.action.agent n)) c.self.view_is in
    let same : n - 1 + 1 ≡ n = omega (arith, c.requires.first) in
    let own : length (awaits_of (g.P.ProgramView.program c.self.inside.program.now) c.args.action.agent (n - 1 + 1)) ≡ length (awaits_of (g.P.ProgramView.program c.self.inside.program.now) c.args.action.agent n) = ap (λ (m : ℕ). length (awaits_of (g.P.ProgramView.program c.self.inside.program.now) c.args.action.agent m)) same in
    let all : length (awaits_of p c.args.action.agent n) ≤ c.instructions.k = omega (arith, view, said.0, own) in
    none_all p (g.C.ActionCosts.cost c.args.self.now.costs) c.args.action c.args.time c.instructions.k c.instructions.invariant.none all a h

pub overflow_add-k : goal.overflow_add-k
overflow_add-k g c =
    let p = g.P.ProgramView.program c.self.inside.program.now in
    let i = c.args.action.agent in
    let n = c.args.action.number - 1 + 1 in
    let here = rw c.in-Await.is at c.read-reading.ensures.instruction in
    let view = ap (λ (t : TimesParts _ _). length (g.P.ProgramView.program t.program)) c.self.view_is in
    omega (arith, few_awaits_of p i n (omega (arith, view, c.requires.agent)) c.agents-agents.ensures.well_formed, slice_get_within (awaits_of p i n) c.instructions.k c.in-Await.one here)

pub instructions-preserved : goal.instructions-preserved
instructions-preserved g c =
    let p = g.P.ProgramView.program c.args.self.now.program in
    let i = c.args.action.agent in
    let n = c.args.action.number in
    let k = c.instructions.k in
    let here = rw c.in-Await.is at c.read-reading.ensures.instruction in
    let view = ap (λ (t : TimesParts _ _). slice_get (awaits_of (g.P.ProgramView.program t.program) i n) k) c.self.view_is in
    let place = ap (λ (t : TimesParts _ _). g.P.ProgramView.offset t.program i (n - 1) (k + 1)) c.self.view_is in
    let same : n - 1 + 1 ≡ n = omega (arith, c.requires.first) in
    let at = sym view ∙ subst (λ (m : ℕ). slice_get (awaits_of (g.P.ProgramView.program c.self.inside.program.now) i m) k ≡ Some c.in-Await.one) same here in
    record {
      within = omega (arith, slice_get_within (awaits_of p i n) k c.in-Await.one at);
      at = rw c.in-Await.is at c.read-reading.ensures.after ∙ place;
      none = none_more p (g.C.ActionCosts.cost c.args.self.now.costs) c.args.action c.args.time k c.instructions.invariant.none c.in-Await.one at c.end-end.result c.end-end.ensures c.if-end-time.false;
    }
