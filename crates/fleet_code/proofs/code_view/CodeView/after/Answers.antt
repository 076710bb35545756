use Rattle.fleet_code.proofs.Words.{◌≡◌, ◌*◌, ◌∙◌, ap, arith, ℕ, Viewed, await_len}
use Rattle.fleet_code.proofs.InPlace.{after_is}
use Rattle.fleet_code.proofs.code_view.CodeView.after.Goals as goal

pub overflow_add-result : goal.overflow_add-result
overflow_add-result c =
    let is = after_is c.args.self.now.version c.args.self.now.program c.args.i c.args.steps c.args.awaits c.begin.result c.part.result.now c.part.ensures.value c.begin.ensures in
    let short = c.part.ensures.short c.requires.within.0 in
    let within = c.requires.within.1 in
    omega (arith, is, short, within)

pub overflow_add-result-2 : goal.overflow_add-result-2
overflow_add-result-2 c =
    let is = after_is c.args.self.now.version c.args.self.now.program c.args.i c.args.steps c.args.awaits c.begin.result c.part.result.now c.part.ensures.value c.begin.ensures in
    let long : c.await_len.result ≡ await_len c.args.self.now.version = c.await_len.ensures ∙ ap (λ (w : Viewed). await_len w.version) c.self.view_is in
    let times : c.await_len.result * c.args.awaits ≡ await_len c.args.self.now.version * c.args.awaits = ap (λ (k : ℕ). k * c.args.awaits) long in
    let short = c.part.ensures.short c.requires.within.0 in
    let within = c.requires.within.1 in
    omega (arith, is, times, short, within)

pub returns : goal.returns
returns c =
    let is = after_is c.args.self.now.version c.args.self.now.program c.args.i c.args.steps c.args.awaits c.begin.result c.part.result.now c.part.ensures.value c.begin.ensures in
    let long : c.await_len.result ≡ await_len c.args.self.now.version = c.await_len.ensures ∙ ap (λ (w : Viewed). await_len w.version) c.self.view_is in
    let times : c.await_len.result * c.args.awaits ≡ await_len c.args.self.now.version * c.args.awaits = ap (λ (k : ℕ). k * c.args.awaits) long in
    omega (arith, is, times)
