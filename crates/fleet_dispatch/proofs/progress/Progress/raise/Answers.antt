use Rattle.fleet_dispatch.proofs.Cited.{◌≡◌, ◌<◌, ◌∙◌, refl, ap, sym, arith, set, nat_lt, moves, count_of, ProgressState}
use Rattle.fleet_dispatch.proofs.Words.{raised_same, raised_set}
use Rattle.fleet_dispatch.proofs.Steps.{raised_leads}
use Rattle.fleet_dispatch.proofs.progress.Progress.raise.Goals as goal

pub returns-then-is_old : goal.returns-then-is_old
returns-then-is_old g c = record {
  leads = λ k leads. leads;
  done = sym (raised_same c.args.self.now.done c.args.i c.args.n (omega (arith, c.if-is_old.true, c.done_of.ensures)));
  told = refl;
}

pub returns : goal.returns
returns g c =
    let p = g.P.ProgramView.program c.args.program.now in
    let s = c.args.self.now in
    let done = set s.done c.args.i c.args.n in
    let more : count_of s.done c.args.i < c.args.n = omega (arith, c.if-is_old.false, c.done_of.ensures) in
    let same : c.finish.new.self ≡ record s { done = done; left = set s.left c.args.i (nat_lt c.args.n (moves p c.args.i)) } =
    c.finish.ensures ∙ ap (λ m. record s { done = done; left = set s.left c.args.i (nat_lt c.args.n m) }) c.moves.ensures in
    let woken = c.wake.ensures in
    record {
      leads = λ k leads. woken.leads k (raised_leads p k c.args.i c.args.n s c.finish.new.self leads c.requires.agent more c.requires.told same);
      done = ap (λ (x : ProgressState). x.done) woken.same ∙ ap (λ (x : ProgressState). x.done) same ∙ sym (raised_set s.done c.args.i c.args.n more);
      told = ap (λ (x : ProgressState). x.told) woken.same ∙ ap (λ (x : ProgressState). x.told) same;
    }
