use Rattle.std.proofs.Common.{◌≡◌, ◌∙◌, ◌<◌, length, get_or, refl, arith}
use Rattle.std.proofs.lemmas.List.{get_or-set_same, get_or-set_other}
use Rattle.fleet_grid.proofs.table.replace_in.Goals as goal
use Rattle.fleet_grid.proofs.table.replace_in.Goals.{then-is_short+in_ok-fill, else-is_short}

pub returns-clause-here : goal.returns-clause-here
returns-clause-here g c =
    let within : c.args.place < length c.if-is_short.page.items = elim c.if-is_short.branch [
      | then-is_short+in_ok-fill w ↦ rw w.page-is (omega (arith, w.in_ok-fill.ensures.whole, c.requires))
      | else-is_short w ↦ rw w.page-is (omega (arith, w.if-is_short.false, c.len.ensures, c.args.page.now.ok.0))
    ] in
    get_or-set_same c.if-is_short.page.items c.args.place c.args.value c.args.blank within

pub returns-clause-others : goal.returns-clause-others
returns-clause-others g c = λ k ne.
    let same : get_or c.if-is_short.page.items k c.args.blank ≡ get_or c.args.page.now.items k c.args.blank = elim c.if-is_short.branch [
      | then-is_short+in_ok-fill w ↦ rw w.page-is (w.in_ok-fill.ensures.same k)
      | else-is_short w ↦ rw w.page-is refl
    ] in
    get_or-set_other c.if-is_short.page.items c.args.place k c.args.value c.args.blank ne ∙ same
