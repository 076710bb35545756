use Rattle.fleet_code.proofs.Words.{◌-◌, ◌∷◌, [], ◌∙◌, ◌≡◌, ap, sym, subst, arith, ℕ, Option, Action, option_map, slice_index_or, none-some, opcode, Version, step_at, Viewed, end_of}
use Rattle.fleet_code.proofs.InPlace.{viewed, action_read, opcode_read, stands_within}
use Rattle.fleet_code.proofs.code_view.CodeViewProgramView.step.Goals as goal

pub bounds-self-inside-end : goal.bounds-self-inside-end
bounds-self-inside-end c =
    let read = action_read (viewed c.self.view_is c.self.invariant) c.args.i c.args.p c.requires.agent c.requires.first c.requires.last in
    let within = stands_within c.self.inside.bytes.now (end_of c.args.self.now.version c.args.self.now.program c.args.i c.args.p - 1) (opcode read.0.step ∷ []) read.2 (omega arith) in
    let end = c.end.ensures in
    omega (arith, within, end)

pub unreachable-requires : goal.unreachable-requires
unreachable-requires c =
    let v = viewed c.self.view_is c.self.invariant in
    let read = action_read v c.args.i c.args.p c.requires.agent c.requires.first c.requires.last in
    let is = opcode_read v c.args.i c.args.p (c.end.result - 1) read.0 c.requires.agent read.1 (ap (λ (n : ℕ). n - 1) c.end.ensures) read.2 in
    let same : c.self.inside.version ≡ c.args.self.now.version = ap (λ (w : Viewed). w.version) c.self.view_is in
    let read_so : c.step_of.result ≡ step_at c.args.self.now.version (slice_index_or c.self.inside.bytes.now (c.end.result - 1) 0) = subst (λ (u : Version). c.step_of.result ≡ step_at u (slice_index_or c.self.inside.bytes.now (c.end.result - 1) 0)) same c.step_of.ensures in
    none-some _ (sym c.in-None.is ∙ read_so ∙ is)

pub returns : goal.returns
returns c =
    let v = viewed c.self.view_is c.self.invariant in
    let read = action_read v c.args.i c.args.p c.requires.agent c.requires.first c.requires.last in
    let is = opcode_read v c.args.i c.args.p (c.end.result - 1) read.0 c.requires.agent read.1 (ap (λ (n : ℕ). n - 1) c.end.ensures) read.2 in
    let same : c.self.inside.version ≡ c.args.self.now.version = ap (λ (w : Viewed). w.version) c.self.view_is in
    let read_so : c.step_of.result ≡ step_at c.args.self.now.version (slice_index_or c.self.inside.bytes.now (c.end.result - 1) 0) = subst (λ (u : Version). c.step_of.result ≡ step_at u (slice_index_or c.self.inside.bytes.now (c.end.result - 1) 0)) same c.step_of.ensures in
    ap (λ (o : Option Action). option_map (λ a. a.step) o) read.1 ∙ sym is ∙ sym read_so ∙ c.in-Some.is
