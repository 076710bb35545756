use Rattle.fleet_verify.proofs.Words.{sym, ◌∙◌, kept_at}
use Rattle.fleet_verify.proofs.Ordered.{added_visit, added_stay}
use Rattle.fleet_verify.proofs.order.add_visit.Goals as goal

pub returns-in_ok-keep_visit : goal.returns-in_ok-keep_visit
returns-in_ok-keep_visit g c =
    let made = c.in_ok-keep_visit.ensures in
    added_visit (g.P.ProgramView.program c.args.program.now) c.args.placed (kept_at c.args.last.now) (kept_at c.keep_visit.new.last) c.args.pairs.now.items c.keep_visit.new.pairs.items
    (record { cell = made.cell; here = c.requires.here }) (sym c.begins_visit.ensures ∙ c.if-begins_visit.true) made.kept

pub returns-else-begins_visit : goal.returns-else-begins_visit
returns-else-begins_visit g c =
    added_stay (g.P.ProgramView.program c.args.program.now) c.args.placed.visit (kept_at c.args.last.now) c.args.pairs.now.items (sym c.begins_visit.ensures ∙ c.if-begins_visit.false)
