use Rattle.fleet_adg.proofs.Words.{nat_le, ap, ◌∙◌, arith, position, Await}
use Rattle.fleet_adg.proofs.Rows.{place_le, place_within, put_in_place, put_before_place, put_last}
use Rattle.fleet_adg.proofs.sweep.note.Goals as goal
use Rattle.fleet_adg.proofs.sweep.note.Goals.{else-is_within-via-then-is_within+else-index-leaving, else-is_within-via-else-is_within}

pub insert-requires : goal.insert-requires
insert-requires c =
    let ws = c.args.row.now.items in
    let long = c.args.row.now.ok.0 in
    let place = place_within ws c.args.leaving c.position_from.result c.len.result c.unwrap_or-place.result (c.position_from.ensures ∙ ap (position (λ (v : Await). nat_le c.args.leaving.agent v.agent)) c.deref.ensures.value) (c.len.ensures ∙ long) c.unwrap_or-place.ensures in
    omega (arith, place, long, place_le c.args.leaving.agent ws)

pub returns-then-index-leaving : goal.returns-then-index-leaving
returns-then-index-leaving c =
    let ws = c.args.row.now.items in
    let long = c.args.row.now.ok.0 in
    let place = place_within ws c.args.leaving c.position_from.result c.len.result c.unwrap_or-place.result (c.position_from.ensures ∙ ap (position (λ (v : Await). nat_le c.args.leaving.agent v.agent)) c.deref.ensures.value) (c.len.ensures ∙ long) c.unwrap_or-place.ensures in
    put_in_place ws c.args.leaving c.index.result.now c.unwrap_or-place.result place (omega (arith, c.if-is_within.true, c.len-2.ensures, long)) c.index.ensures c.if-index-leaving.true

pub returns-in_ok-insert : goal.returns-in_ok-insert
returns-in_ok-insert c =
    let ws = c.args.row.now.items in
    let long = c.args.row.now.ok.0 in
    let place = place_within ws c.args.leaving c.position_from.result c.len.result c.unwrap_or-place.result (c.position_from.ensures ∙ ap (position (λ (v : Await). nat_le c.args.leaving.agent v.agent)) c.deref.ensures.value) (c.len.ensures ∙ long) c.unwrap_or-place.ensures in
    c.in_ok-insert.ensures.items
    ∙ elim c.else-is_within.branch [
      | else-is_within-via-then-is_within+else-index-leaving w ↦ put_before_place ws c.args.leaving w.index.result.now c.unwrap_or-place.result place w.index.ensures w.if-index-leaving.false
      | else-is_within-via-else-is_within w ↦ put_last ws c.args.leaving c.unwrap_or-place.result place (omega (arith, w.if-is_within.false, c.len-2.ensures, long))
    ]
