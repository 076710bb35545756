use Rattle.fleet_dispatch.proofs.Cited.{◌≡◌, refl, IsWorking, Talk, window_rest}
use Rattle.fleet_dispatch.proofs.TalkLaws.{tells_more}
use Rattle.fleet_dispatch.proofs.stream_floor.StreamFloorFloor.tell.Goals as goal

pub returns : goal.returns
returns g c =
    let f = c.args.self.now in
    let log = g.L.ReportLog.state f.log.now in
    let said : Talk → Type 0 = λ talk. g.R.ReportsTo.talks f.form f.input.now (window_rest f.window) f.orders.now log c.tell.new.self (window_rest f.window) c.tell.new.orders log talk in
    let works : Type 0 = IsWorking (g.O.TraceOut.state c.tell.new.orders) in
    tells_more said
    (λ talk. said talk × (f.form ≡ f.form) × (f.input.ghost_name ≡ f.input.ghost_name) × (f.orders.ghost_name ≡ f.orders.ghost_name) × (f.log.ghost_name ≡ f.log.ghost_name) × g.L.ReportLog.stays f.log.now f.log.now)
    works (works × IsWorking log)
    (λ talk so. (so, refl, refl, refl, refl, g.met.L.ReportLog.same f.log.now)) (λ still. (still, c.requires.1)) c.tell.result c.args.bytes.now (c.tell.ensures log)
