use Rattle.fleet_dispatch.proofs.Cited.{◌≡◌, rules, subst, Talk, window_rest, ReportForm}
use Rattle.fleet_dispatch.proofs.Said.{dispatches_more, dispatch_gives}
use Rattle.fleet_dispatch.proofs.stream_floor.dispatch_led.Goals as goal

pub returns : goal.returns
returns g c =
    let f = c.new-floor.result in
    let h = c.run_session.new.floor in
    let over : ReportForm → Talk → Type 0 = λ form talk. g.R.ReportsTo.talks form f.input.now (window_rest f.window) f.orders.now (g.L.ReportLog.state f.log.now) h.input.now (window_rest h.window) h.orders.now (g.L.ReportLog.state h.log.now) talk in
    let stays : g.L.ReportLog.stays f.log.now h.log.now = dispatch_gives _ (g.L.ReportLog.stays f.log.now h.log.now) (λ talk said. said.5) _ _ c.run_session.result c.run_session.ensures in
    record {
      outcome = dispatches_more (λ talk. over f.form talk × (h.form ≡ f.form) × (h.input.ghost_name ≡ f.input.ghost_name) × (h.orders.ghost_name ≡ f.orders.ghost_name) × (h.log.ghost_name ≡ f.log.ghost_name) × g.L.ReportLog.stays f.log.now h.log.now) _
          (λ talk said. let here : over c.args.pace.form talk = subst (λ form. over form talk) c.new-floor.ensures.form said.0 in (window_rest h.window, search rules)) _ _ _ c.run_session.ensures;
      stays = search rules;
    }
