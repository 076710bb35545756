use Rattle.fleet_run.proofs.Words.{◌≡◌, ◌+◌, arith, subst, List, ℕ, get_or, IsWrittenOver, IsResized}
use Rattle.fleet_run.proofs.Lines.{has_number, in_order, really_over, not_over, overwritten}
use Rattle.fleet_run.proofs.Resized.{resized_by}
use Rattle.fleet_run.proofs.line.put_text.Goals as goal

pub overwrite-requires : goal.overwrite-requires
overwrite-requires c =
    let ns = c.requires.kept.0 in
    let kept = c.requires.kept.1 in
    let inside = c.requires.kept.2 in
    record {
      number = has_number ns c.args.at c.args.row.now c.args.begins.now kept inside;
      order = in_order ns c.args.at c.args.row.now c.args.begins.now kept inside;
    }

pub returns-then-overwrite-clause-kept : goal.returns-then-overwrite-clause-kept
returns-then-overwrite-clause-kept c =
    λ few ns n kept inside same.
    let over = really_over c.overwrite.result _ _ _ _ _ c.overwrite.ensures c.if-overwrite.true in
    let by_text = subst (λ (text : List ℕ). IsWrittenOver text (get_or c.args.begins.now c.args.at 0) (get_or c.args.begins.now (c.args.at + 1) 0) c.args.row.now c.overwrite.new.row) same over in
    overwritten ns c.args.row.now c.overwrite.new.row c.args.begins.now c.args.at n kept inside by_text

pub resize_to-requires : goal.resize_to-requires
resize_to-requires c =
    let kept = c.requires.kept.1 in
    let inside = c.requires.kept.2 in
    let same : c.overwrite.new.row ≡ c.args.row.now = not_over c.overwrite.result _ _ _ _ _ c.overwrite.ensures c.if-overwrite.false in
    let here = kept.within c.args.at (omega (arith, inside)) in
    record {
      number = rw same (has_number c.requires.kept.0 c.args.at c.args.row.now c.args.begins.now kept inside);
      begin = omega (arith, here);
      before = λ k l. let low = kept.within k (omega (arith, inside, l)) in (kept.rising k (omega (arith, inside, l)), omega (arith, low));
      short = c.requires.short;
    }

pub returns-then-resize_to-clause-kept : goal.returns-then-resize_to-clause-kept
returns-then-resize_to-clause-kept c =
    λ few ns n kept inside same.
    let unmoved : c.overwrite.new.row ≡ c.args.row.now = not_over c.overwrite.result _ _ _ _ _ c.overwrite.ensures c.if-overwrite.false in
    let made = c.resize_to.ensures.resized c.if-resize_to.true in
    let from_row = subst (λ (r : List ℕ). IsResized c.args.at c.args.text.now r c.resize_to.new.row c.args.begins.now c.resize_to.new.begins) unmoved made in
    let by_text = subst (λ (text : List ℕ). IsResized c.args.at text c.args.row.now c.resize_to.new.row c.args.begins.now c.resize_to.new.begins) same from_row in
    resized_by ns c.args.row.now c.resize_to.new.row c.args.begins.now c.resize_to.new.begins c.args.at n kept inside by_text
