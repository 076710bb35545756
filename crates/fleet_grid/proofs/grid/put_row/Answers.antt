use Rattle.std.proofs.Common.{◌∙◌, sym, rules}
use Rattle.std.proofs.lemmas.List.Sums.{AllPass-from_list_all}
use Rattle.fleet_grid.specs.MapText.{is_glyph}
use Rattle.fleet_grid.proofs.MapLaws.{row_again}
use Rattle.fleet_grid.proofs.grid.put_row.Goals as goal

pub returns-then-are_glyphs-clause-value : goal.returns-then-are_glyphs-clause-value
returns-then-are_glyphs-clause-value c =
    let line = c.args.line.now in
    let all = sym c.in_ok-are_glyphs.ensures.glyphs ∙ c.if-are_glyphs.true in
    row_again c.args.width c.args.row line (record { width = search rules; glyphs = AllPass-from_list_all is_glyph line all })
