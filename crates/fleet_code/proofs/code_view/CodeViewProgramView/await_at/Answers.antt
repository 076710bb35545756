use Rattle.fleet_code.proofs.Words.{◌+◌, ◌-◌, ◌*◌, ◌≡◌, ◌≤◌, ◌∙◌, sym, subst, ap, arith, Some, ℕ, Await, Version, most_count, Viewed, StandsAt, await_len, end_of}
use Rattle.fleet_code.specs.Spelling.{await}
use Rattle.fleet_code.proofs.InPlace.{viewed, await_read, await_long, stands_within}
use Rattle.fleet_code.proofs.code_view.CodeViewProgramView.await_at.Goals as goal

pub overflow_add-at : goal.overflow_add-at
overflow_add-at c =
    let v = c.args.self.now.version in
    let read = await_read (viewed c.self.view_is c.self.invariant) c.args.i c.args.p c.args.k c.requires.agent c.requires.first c.requires.last c.requires.place in
    let within = stands_within c.self.inside.bytes.now (end_of v c.args.self.now.program c.args.i (c.args.p - 1) + await_len v * c.args.k) (await v read.0) read.4 (omega arith) in
    let long : c.await_len.result ≡ await_len v = c.await_len.ensures ∙ ap (λ (w : Viewed). await_len w.version) c.self.view_is in
    let times : c.await_len.result * c.from.result ≡ await_len v * c.args.k = ap (λ (m : ℕ). m * c.from.result) long ∙ ap (λ (m : ℕ). await_len v * m) c.from.ensures in
    let end = c.end.ensures in
    let fits = c.self.told.0 in
    omega (arith, within, end, times, fits)

pub await_in-requires : goal.await_in-requires
await_in-requires c =
    let v = c.args.self.now.version in
    let read = await_read (viewed c.self.view_is c.self.invariant) c.args.i c.args.p c.args.k c.requires.agent c.requires.first c.requires.last c.requires.place in
    let within = stands_within c.self.inside.bytes.now (end_of v c.args.self.now.program c.args.i (c.args.p - 1) + await_len v * c.args.k) (await v read.0) read.4 (omega arith) in
    let long : c.await_len.result ≡ await_len v = c.await_len.ensures ∙ ap (λ (w : Viewed). await_len w.version) c.self.view_is in
    let times : c.await_len.result * c.from.result ≡ await_len v * c.args.k = ap (λ (m : ℕ). m * c.from.result) long ∙ ap (λ (m : ℕ). await_len v * m) c.from.ensures in
    let one = await_long v read.0 in
    let same : await_len c.self.inside.version ≡ await_len v = ap (λ (w : Viewed). await_len w.version) c.self.view_is in
    let end = c.end.ensures in
    omega (arith, within, end, times, one, same)

pub returns : goal.returns
returns c =
    let v = c.args.self.now.version in
    let read = await_read (viewed c.self.view_is c.self.invariant) c.args.i c.args.p c.args.k c.requires.agent c.requires.first c.requires.last c.requires.place in
    let long : c.await_len.result ≡ await_len v = c.await_len.ensures ∙ ap (λ (w : Viewed). await_len w.version) c.self.view_is in
    let times : c.await_len.result * c.from.result ≡ await_len v * c.args.k = ap (λ (m : ℕ). m * c.from.result) long ∙ ap (λ (m : ℕ). await_len v * m) c.from.ensures in
    let at : c.end.result + c.await_len.result * c.from.result ≡ end_of v c.args.self.now.program c.args.i (c.args.p - 1) + await_len v * c.args.k = (let end = c.end.ensures in omega (arith, end, times)) in
    let same : c.self.inside.version ≡ v = ap (λ (w : Viewed). w.version) c.self.view_is in
    let there : StandsAt c.self.inside.bytes.now (c.end.result + c.await_len.result * c.from.result) (await v read.0) = subst (λ (n : ℕ). StandsAt c.self.inside.bytes.now n (await v read.0)) (sym at) read.4 in
    read.1 ∙ ap (λ (w : Await). Some w) (sym (c.await_in.ensures read.0 read.2 (subst (λ (u : Version). read.0.count ≤ most_count u) (sym same) read.3) (subst (λ (u : Version). StandsAt c.self.inside.bytes.now (c.end.result + c.await_len.result * c.from.result) (await u read.0)) (sym same) there)))
