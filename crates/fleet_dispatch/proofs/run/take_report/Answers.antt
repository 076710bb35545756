use Rattle.fleet_dispatch.proofs.Cited.{◌≡◌, ◌+◌, ◌∙◌, ◌++◌, cond, false, length, take, drop, sym, ap, arith, common_steps}
use Rattle.fleet_dispatch.proofs.Steps.{led_counts, words_told}
use Rattle.fleet_dispatch.proofs.Taking.{logged_turns}
use Rattle.fleet_dispatch.proofs.run.take_report.Goals as goal

pub take-requires-clause-ordered : goal.take-requires-clause-ordered
take-requires-clause-ordered g c =
    let p = g.P.ProgramView.program c.args.program.now in
    words_told p c.args._pace.ahead c.args.session.now.progress c.args.session.now.report c.requires.told (c.in_default.ensures.first c.args._pace.ahead c.requires.told)

pub returns : goal.returns
returns g c =
    let s = c.args.session.now in
    let logged = logged_turns (g.F.Floor.talks c.args.floor.now c.log_report-logged.new.floor) (g.F.Floor.works c.log_report-logged.new.floor) c.is_repeat-is_repeat.result c.log_report-logged.result s.progress.done s.report c.is_repeat-is_repeat.ensures (sym c.is_err.ensures.value ∙ c.if-is_err.false) c.log_report-logged.ensures in
    let kept : length (take s.line.len (c.log_report-logged.new.row ++ drop (length c.log_report-logged.new.row) s.line.items)) ≡ 22529 = grind (arith, common_steps) in
    record {
      logged = logged.0;
      still = logged.1;
      rising = c.first_unordered.ensures.rising;
      ordered = c.in_default.ensures.first c.args._pace.ahead c.requires.told;
      ready = record { leads = c.take.ensures.leads c.args._pace.ahead c.requires.ready.leads; row = c.requires.ready.row; line = kept; answer = c.requires.ready.answer };
      done = c.take.ensures.done;
      told = c.take.ensures.told;
      taken = c.count_with-session.ensures ∙ ap (λ b. s.taken + cond b 0 1) c.is_repeat-is_repeat.ensures;
    }

pub first_unordered-requires-clause-counts : goal.first_unordered-requires-clause-counts
first_unordered-requires-clause-counts g c =
    led_counts (g.P.ProgramView.program c.args.program.now) (λ i. false) c.args._pace.ahead c.args.session.now.progress c.requires.ready.leads

pub is_repeat-is_repeat-requires-clause-counts : goal.is_repeat-is_repeat-requires-clause-counts
is_repeat-is_repeat-requires-clause-counts g c =
    led_counts (g.P.ProgramView.program c.args.program.now) (λ i. false) c.args._pace.ahead c.args.session.now.progress c.requires.ready.leads

pub is_repeat-is_repeat-requires-clause-agents : goal.is_repeat-is_repeat-requires-clause-agents
is_repeat-is_repeat-requires-clause-agents g c = λ k w h.
    (words_told (g.P.ProgramView.program c.args.program.now) c.args._pace.ahead c.args.session.now.progress c.args.session.now.report c.requires.told (c.in_default.ensures.first c.args._pace.ahead c.requires.told) k w h).0
