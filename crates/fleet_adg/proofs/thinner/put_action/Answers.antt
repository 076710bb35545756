use Rattle.fleet_adg.proofs.Words.{◌≡◌, ◌<◌, ◌+◌, ◌-◌, ℕ, length, sym, subst, ◌∙◌, arith, false≢true, slice_get, Some, slice_get_within, get_or_from_slice_get, awaits_of, step_of, IsImplied, AreUnimplied}
use Rattle.fleet_model.proofs.Totals.{few_awaits_of}
use Rattle.fleet_code.specs.Spelling.{await}
use Rattle.fleet_adg.proofs.Thinning.{keep_one}
use Rattle.fleet_adg.proofs.ThinnedBytes.{adds_none, adds_more, adds_same, adds_step}
use Rattle.fleet_adg.proofs.thinner.put_action.Goals.{then-is_kept+in_ok-put_await-in-Await, else-is_kept}
use Rattle.fleet_adg.proofs.thinner.put_action.Goals as goal

pub instructions-init : goal.instructions-init
instructions-init g c = record {
  within = omega arith;
  at = c.requires.at;
  put = adds_none c.args.version (g.P.ProgramView.program c.args.program.now) c.args.action c.args.out.now.items;
}

pub is_kept-requires-clause-place : goal.is_kept-requires-clause-place
is_kept-requires-clause-place g c =
    let p = g.P.ProgramView.program c.args.program.now in
    let a = c.args.action in
    let same : a.number - 1 + 1 ≡ a.number = omega (arith, c.requires.action.first) in
    let here = rw c.in-Await.is at c.read-reading.ensures.instruction in
    let at = subst (λ (n : ℕ). slice_get (awaits_of p a.agent n) c.instructions.k ≡ Some c.in-Await.one) same here in
    slice_get_within (awaits_of p a.agent a.number) c.instructions.k c.in-Await.one at

pub put_await-requires : goal.put_await-requires
put_await-requires g c =
    let p = g.P.ProgramView.program c.args.program.now in
    let a = c.args.action in
    let k = c.instructions.k in
    let w = c.in-Await.one in
    let same : a.number - 1 + 1 ≡ a.number = omega (arith, c.requires.action.first) in
    let here = rw c.in-Await.is at c.read-reading.ensures.instruction in
    let at = subst (λ (n : ℕ). slice_get (awaits_of p a.agent n) k ≡ Some w) same here in
    let awaits = awaits_of p a.agent a.number in
    let met = c.requires.thin.in_range a.agent a.number w (k, slice_get_within awaits k w at, get_or_from_slice_get awaits k w w at) in
    let few = c.requires.thin.few w.agent in
    omega (arith, met.last, few)

pub overflow_add-k : goal.overflow_add-k
overflow_add-k g c =
    let p = g.P.ProgramView.program c.args.program.now in
    let a = c.args.action in
    let few = few_awaits_of p a.agent (a.number - 1 + 1) c.requires.action.agent c.agents-agents.ensures.well_formed in
    let here = rw c.in-Await.is at c.read-reading.ensures.instruction in
    let within = slice_get_within (awaits_of p a.agent (a.number - 1 + 1)) c.instructions.k c.in-Await.one here in
    omega (arith, few, within)

pub instructions-preserved : goal.instructions-preserved
instructions-preserved g c =
    let p = g.P.ProgramView.program c.args.program.now in
    let a = c.args.action in
    let v = c.args.version in
    let k = c.instructions.k in
    let one = c.in-Await.one in
    let formed = c.agents-agents.ensures.well_formed in
    let before = c.args.out.now.items in
    let out = c.instructions.out.items in
    let put = c.instructions.invariant.put in
    let same : a.number - 1 + 1 ≡ a.number = omega (arith, c.requires.action.first) in
    let here = rw c.in-Await.is at c.read-reading.ensures.instruction in
    let at : slice_get (awaits_of p a.agent a.number) k ≡ Some one = subst (λ (n : ℕ). slice_get (awaits_of p a.agent n) k ≡ Some one) same here in
    let within : k < length (awaits_of p a.agent a.number) = slice_get_within (awaits_of p a.agent a.number) k one at in
    record {
      within = omega (arith, within);
      at = rw c.in-Await.is at c.read-reading.ensures.after;
      put = elim c.if-is_kept.branch [
        | then-is_kept+in_ok-put_await-in-Await w ↦
            let stays : IsImplied p a one → ⊥ = λ i. false≢true (sym ((c.is_kept.ensures one at).1 i) ∙ w.if-is_kept.true) in
            rw w.out-is (adds_more (await v) (AreUnimplied p a k) (AreUnimplied p a (k + 1)) one before out w.put_await.new.out.items put (λ ws made. keep_one p formed a k ws made one at stays) w.in_ok-put_await-in-Await.ensures)
        | else-is_kept w ↦ rw w.out-is (adds_same v p formed a k before out put within (λ x there. (c.is_kept.ensures x there).0 w.if-is_kept.false))
      ];
    }

pub returns-in-Step-clause-put : goal.returns-in-Step-clause-put
returns-in-Step-clause-put g c =
    let p = g.P.ProgramView.program c.args.program.now in
    let a = c.args.action in
    let same : a.number - 1 + 1 ≡ a.number = omega (arith, c.requires.action.first) in
    let said = rw c.in-Step.is at c.read-reading.ensures.instruction in
    let all = subst (λ (n : ℕ). c.instructions.k ≡ length (awaits_of p a.agent n)) same said.0 in
    let step = subst (λ (n : ℕ). step_of p a.agent n ≡ Some c.in-Step.step) same said.1 in
    adds_step c.args.version p a c.instructions.k c.in-Step.step c.args.out.now.items c.instructions.out.items c.put_step.new.out.items c.instructions.invariant.put all step c.in_ok-put_step-in-Step.ensures
