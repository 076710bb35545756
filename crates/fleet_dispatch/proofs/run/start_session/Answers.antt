use Rattle.fleet_dispatch.proofs.Cited.{◌*◌, ◌∙◌, refl, ap, rules, length, ℕ, length-replicate}
use Rattle.fleet_dispatch.proofs.run.start_session.Goals as goal

pub returns : goal.returns
returns g c = record {
  ready = record {
    leads = c.in_ok-progress.ensures.leads c.args.pace.ahead;
    row = ap length (c.in_ok-row.ensures.items_if_clones_equal (λ y k. search rules)) ∙ (length-replicate {A = ℕ} (73 * c.args.pace.ahead * c.agents.result) 0 ∙ ap (λ n. 73 * c.args.pace.ahead * n) c.agents.ensures.count);
    line = ap length (c.in_ok-line.ensures.items_if_clones_equal (λ y k. search rules)) ∙ length-replicate {A = ℕ} 22529 0;
    answer = ap length (c.in_ok-answer.ensures.items_if_clones_equal (λ y k. search rules)) ∙ (length-replicate {A = ℕ} (96 * c.agents-2.result) 0 ∙ ap (λ n. 96 * n) c.agents-2.ensures.count);
  };
  done = c.in_ok-progress.ensures.done;
  told = c.in_ok-progress.ensures.told;
  taken = refl;
}
