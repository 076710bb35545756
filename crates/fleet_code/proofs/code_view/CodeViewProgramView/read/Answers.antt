use Rattle.fleet_code.proofs.Words.{◌≡◌, ◌≤◌, ◌∙◌, sym, subst, ap, refl, arith, inl, inr, Some, ℕ, slice_index_or, none-some, Await, awaits_before, Version, most_count, step_at, Viewed, StandsAt, await_len}
use Rattle.fleet_code.specs.Spelling.{await}
use Rattle.fleet_code.proofs.InPlace.{viewed, instruction_read, step_after, step_no_await}
use Rattle.fleet_code.proofs.code_view.CodeViewProgramView.read.Goals as goal

pub bounds-self-inside-at : goal.bounds-self-inside-at
bounds-self-inside-at c =
    let v = viewed c.self.view_is c.self.invariant in
    let at = c.requires.at in
    elim (instruction_read v c.args.i c.args.finished (awaits_before c.args.self.now.program c.args.i c.args.finished) c.args.k c.requires.agent c.requires.left refl c.requires.place) [
      | inl w ↦ (let within = w.within in omega (arith, within, at))
      | inr s ↦ (let within = s.within in omega (arith, within, at))
    ]

pub await_in-requires : goal.await_in-requires
await_in-requires c =
    let v = viewed c.self.view_is c.self.invariant in
    let at = c.requires.at in
    let same : await_len c.self.inside.version ≡ await_len c.args.self.now.version = ap (λ (w : Viewed). await_len w.version) c.self.view_is in
    elim (instruction_read v c.args.i c.args.finished (awaits_before c.args.self.now.program c.args.i c.args.finished) c.args.k c.requires.agent c.requires.left refl c.requires.place) [
      | inl w ↦ (let within = w.within in omega (arith, within, at, same))
      | inr s ↦ absurd (step_no_await c.args.self.now.version _ s.one s.opcode (sym (ap (λ (m : ℕ). slice_index_or c.self.inside.bytes.now m 0) at) ∙ c.if-opcode-eq-AWAIT.true))
    ]

pub returns-then-opcode-eq-AWAIT-clause-instruction : goal.returns-then-opcode-eq-AWAIT-clause-instruction
returns-then-opcode-eq-AWAIT-clause-instruction c =
    let v = viewed c.self.view_is c.self.invariant in
    let at = c.requires.at in
    let same : c.self.inside.version ≡ c.args.self.now.version = ap (λ (w : Viewed). w.version) c.self.view_is in
    elim (instruction_read v c.args.i c.args.finished (awaits_before c.args.self.now.program c.args.i c.args.finished) c.args.k c.requires.agent c.requires.left refl c.requires.place) [
      | inl w ↦ (
          let there : StandsAt c.self.inside.bytes.now c.args.at (await c.args.self.now.version w.one) = subst (λ (n : ℕ). StandsAt c.self.inside.bytes.now n (await c.args.self.now.version w.one)) (sym at) w.there in
          w.is ∙ ap (λ (w : Await). Some w) (sym (c.await_in.ensures w.one w.agent (subst (λ (u : Version). w.one.count ≤ most_count u) (sym same) w.count) (subst (λ (u : Version). StandsAt c.self.inside.bytes.now c.args.at (await u w.one)) (sym same) there))))
      | inr s ↦ absurd (step_no_await c.args.self.now.version _ s.one s.opcode (sym (ap (λ (m : ℕ). slice_index_or c.self.inside.bytes.now m 0) at) ∙ c.if-opcode-eq-AWAIT.true))
    ]

pub unreachable-requires : goal.unreachable-requires
unreachable-requires c =
    let v = viewed c.self.view_is c.self.invariant in
    let at = c.requires.at in
    let byte = ap (λ (m : ℕ). slice_index_or c.self.inside.bytes.now m 0) at in
    let same : c.self.inside.version ≡ c.args.self.now.version = ap (λ (w : Viewed). w.version) c.self.view_is in
    let read_so : c.step_of.result ≡ step_at c.args.self.now.version (slice_index_or c.self.inside.bytes.now c.args.at 0) = subst (λ (u : Version). c.step_of.result ≡ step_at u (slice_index_or c.self.inside.bytes.now c.args.at 0)) same c.step_of.ensures in
    elim (instruction_read v c.args.i c.args.finished (awaits_before c.args.self.now.program c.args.i c.args.finished) c.args.k c.requires.agent c.requires.left refl c.requires.place) [
      | inl w ↦ c.if-opcode-eq-AWAIT.false (byte ∙ w.opcode)
      | inr s ↦ none-some _ (sym c.in-None.is ∙ read_so ∙ ap (step_at c.args.self.now.version) byte ∙ s.opcode)
    ]

pub returns-clause-instruction : goal.returns-clause-instruction
returns-clause-instruction c =
    let v = viewed c.self.view_is c.self.invariant in
    let at = c.requires.at in
    let byte = ap (λ (m : ℕ). slice_index_or c.self.inside.bytes.now m 0) at in
    let same : c.self.inside.version ≡ c.args.self.now.version = ap (λ (w : Viewed). w.version) c.self.view_is in
    let read_so : c.step_of.result ≡ step_at c.args.self.now.version (slice_index_or c.self.inside.bytes.now c.args.at 0) = subst (λ (u : Version). c.step_of.result ≡ step_at u (slice_index_or c.self.inside.bytes.now c.args.at 0)) same c.step_of.ensures in
    elim (instruction_read v c.args.i c.args.finished (awaits_before c.args.self.now.program c.args.i c.args.finished) c.args.k c.requires.agent c.requires.left refl c.requires.place) [
      | inl w ↦ absurd (c.if-opcode-eq-AWAIT.false (byte ∙ w.opcode))
      | inr s ↦ (s.last, s.is ∙ sym (ap (step_at c.args.self.now.version) byte ∙ s.opcode) ∙ sym read_so ∙ c.in-Some.is)
    ]

pub returns-clause-after : goal.returns-clause-after
returns-clause-after c =
    let v = viewed c.self.view_is c.self.invariant in
    let at = c.requires.at in
    let byte = ap (λ (m : ℕ). slice_index_or c.self.inside.bytes.now m 0) at in
    elim (instruction_read v c.args.i c.args.finished (awaits_before c.args.self.now.program c.args.i c.args.finished) c.args.k c.requires.agent c.requires.left refl c.requires.place) [
      | inl w ↦ absurd (c.if-opcode-eq-AWAIT.false (byte ∙ w.opcode))
      | inr s ↦ (
          let after = step_after c.args.self.now.version c.args.self.now.program c.args.i c.args.finished c.args.k s.last in
          omega (arith, at, after))
    ]

pub overflow_add-result-in-Some : goal.overflow_add-result-in-Some
overflow_add-result-in-Some c =
    let v = viewed c.self.view_is c.self.invariant in
    let at = c.requires.at in
    let long = c.self.told.0 in
    elim (instruction_read v c.args.i c.args.finished (awaits_before c.args.self.now.program c.args.i c.args.finished) c.args.k c.requires.agent c.requires.left refl c.requires.place) [
      | inl w ↦ (let within = w.within in omega (arith, within, at, long))
      | inr s ↦ (let within = s.within in omega (arith, within, at, long))
    ]
