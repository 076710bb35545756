use Rattle.std.proofs.Common.{◌≡◌, ◌≢◌, ◌<◌, slice_index, sym, ap, ◌∙◌, arith}
use Rattle.fleet_plan.proofs.MeetLaws.{meeting-hit, meeting-miss}
use Rattle.fleet_plan.proofs.sweep.first_meeting.Goals as goal
use Rattle.fleet_plan.proofs.sweep.first_meeting.Goals.{then-from-j+then-places-from, else-from-j+in_ok-set, else-from-j-via-then-from-j+else-places-from, else-from-j-via-else-from-j}

pub loop-j-preserved : goal.loop-j-preserved
loop-j-preserved c =
    let table = c.loop-j.table in
    let places = c.args.places.now in
    let j = c.loop-j.j in
    let i = c.get-i.result in
    elim c.if-from-j.branch [
      | then-from-j+then-places-from w ↦
          let below : i < j = omega (arith, c.from.ensures, w.if-from-j.true) in
          let same : slice_index places i ≡ slice_index places j = ap (slice_index places) (sym w.from-then-from-j.ensures) ∙ w.if-places-from.true in
          rw (w.table-is, w.first-is) (meeting-hit table places c.loop-j.first j c.loop-j.invariant i c.get-i.ensures below same w.first_pair.result w.first_pair.ensures)
      | else-from-j+in_ok-set w ↦
          let other : i < j → slice_index places i ≢ slice_index places j = elim w.else-from-j.branch [
            | else-from-j-via-then-from-j+else-places-from w' ↦ λ l s. w'.if-places-from.false (ap (slice_index places) w'.from-then-from-j.ensures ∙ s)
            | else-from-j-via-else-from-j w' ↦ λ l. absurd (omega (arith, c.from.ensures, w'.if-from-j.false))
          ] in
          rw (w.table-is, w.first-is) (meeting-miss table places c.loop-j.first j c.loop-j.invariant i c.get-i.ensures other w.set.new.self w.in_ok-set.ensures.set)
    ]
