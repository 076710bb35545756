use Rattle.fleet_dispatch.proofs.Cited.{◌≡◌, ◌∙◌, ap, sym, subst, get_or, path, home_of, WaitState, home_of_nobody, Counts, count_of, ProgressState, AreCounts}
use Rattle.fleet_dispatch.proofs.Steps.{started}
use Rattle.fleet_dispatch.proofs.progress.Progress.start.Goals as goal

pub returns : goal.returns
returns g c =
    let p = g.P.ProgramView.program c.args.program.now in
    let s = c.mark_all.new.self in
    let marked = c.mark_all.ensures in
    let done : s.done ≡ c.args.done.now = ap (λ (x : ProgressState). x.done) marked.same ∙ c.in_ok-done.ensures in
    let told : s.told ≡ c.args.done.now = ap (λ (x : ProgressState). x.told) marked.same ∙ c.in_ok-told.ensures in
    record {
      leads = λ k. started p k s (subst (AreCounts p) (sym done) c.requires.counts) marked.rows (told ∙ sym done)
          (λ i q a. ap (λ (x : ProgressState). get_or x.places i q) marked.same ∙ c.in_ok-places.ensures.places i q a ∙ ap (λ (x : Counts). path p i (count_of x i)) (sym done))
          (λ i. ap (λ (x : ProgressState). home_of x.waiting.homes i) marked.same ∙ ap (λ (x : WaitState). home_of x.homes i) c.in_ok-waiting.ensures ∙ home_of_nobody c.agents-agents.result i)
          marked.due marked.left;
      done = done;
      told = told;
    }
