use Rattle.std.proofs.Common.{ℕ, [], ◌∷◌, ◌++◌, ap, ◌∙◌}
use Rattle.fleet_grid.specs.MapWriting.{is_left}
use Rattle.fleet_grid.proofs.MapWritten.{cell_more}
use Rattle.fleet_grid.proofs.writing.put_row.Goals as goal

pub loop-x-preserved : goal.loop-x-preserved
loop-x-preserved c =
    cell_more (is_left c.args.grid.now c.args.without.now c.args.y) c.args.text.now.items c.loop-x.text.items c.push.new.self.items c.loop-x.x c.loop-x.invariant
    (c.in_ok-push.ensures.items ∙ ap (λ (b : ℕ). c.loop-x.text.items ++ b ∷ []) c.glyph_of.ensures)
