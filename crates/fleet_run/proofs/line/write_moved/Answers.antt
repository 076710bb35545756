use Rattle.fleet_run.proofs.Words.{◌<◌, ap, length, refl, arith, Place, standing_at}
use Rattle.std.proofs.Math.ListN.{length-set}
use Rattle.fleet_run.proofs.Lines.{places_long, rewritten_next, rewritten_all, stood}
use Rattle.fleet_run.proofs.line.write_moved.Goals as goal

pub move_place-more-requires : goal.move_place-more-requires
move_place-more-requires c =
    let m = c.args.machine.now in
    let h = c.loop-i.invariant.kept in
    let agent : c.in-Some.i < length m.configuration = omega (arith, c.in-Some.ensures.next.agent, c.requires.moved) in
    let here = stood m c.loop-i.cursor.from c.loop-i.row c.loop-i.begins c.loop-i.places h c.in-Some.i _ agent in
    rw (c.from-i.ensures, c.agents-rows.ensures) (record {
      agent = omega (arith, agent, c.requires.agents);
      kept = (h.now, h.kept, omega (arith, agent, h.agents), here);
      beside = rw (← here) (h.beside c.in-Some.i);
    })

pub loop-i-preserved : goal.loop-i-preserved
loop-i-preserved c =
    let m = c.args.machine.now in
    let h = c.loop-i.invariant.kept in
    let i = c.in-Some.i in
    let next = c.in-Some.ensures.next in
    let behind = c.in-Some.ensures.behind in
    let agent : i < length m.configuration = omega (arith, next.agent, c.requires.moved) in
    let here = stood m c.loop-i.cursor.from c.loop-i.row c.loop-i.begins c.loop-i.places h i _ agent in
    let moves = rw (c.from-i.ensures, c.agents-rows.ensures) at c.move_place-more.ensures.kept in
    let kept = moves (omega arith) h.now h.kept (omega (arith, agent, h.agents)) here (standing_at m.configuration i) refl in
    record {
      cursor = c.in-Some.ensures.cursor;
      from = omega (arith, agent, c.requires.agents, behind);
      few = omega arith;
      room = kept.room;
      begun = kept.begun;
      kept = rw (behind, c.from-i.ensures, c.agents-rows.ensures) (rewritten_next m c.loop-i.cursor.from i c.loop-i.row c.move_place-more.new.row c.loop-i.begins c.move_place-more.new.begins c.loop-i.places h next agent kept);
    }

pub loop-i-preserved-else-resized-gt-MOST_RESIZED : goal.loop-i-preserved-else-resized-gt-MOST_RESIZED
loop-i-preserved-else-resized-gt-MOST_RESIZED c =
    let m = c.args.machine.now in
    let h = c.loop-i.invariant.kept in
    let i = c.in-Some.i in
    let next = c.in-Some.ensures.next in
    let behind = c.in-Some.ensures.behind in
    let agent : i < length m.configuration = omega (arith, next.agent, c.requires.moved) in
    let here = stood m c.loop-i.cursor.from c.loop-i.row c.loop-i.begins c.loop-i.places h i _ agent in
    let moves = rw (c.from-i.ensures, c.agents-rows.ensures) at c.move_place-more.ensures.kept in
    let kept = moves (omega arith) h.now h.kept (omega (arith, agent, h.agents)) here (standing_at m.configuration i) refl in
    record {
      cursor = c.in-Some.ensures.cursor;
      from = omega (arith, agent, c.requires.agents, behind);
      few = omega arith;
      room = kept.room;
      begun = kept.begun;
      kept = rw (behind, c.from-i.ensures, c.agents-rows.ensures) (rewritten_next m c.loop-i.cursor.from i c.loop-i.row c.move_place-more.new.row c.loop-i.begins c.move_place-more.new.begins c.loop-i.places h next agent kept);
    }

pub returns : goal.returns
returns c = rewritten_all c.args.machine.now c.loop-i.cursor.from c.loop-i.row c.loop-i.begins c.loop-i.places c.loop-i.invariant.kept c.in_default.ensures.next

pub bounds-places-i : goal.bounds-places-i
bounds-places-i c = omega (arith, c.in-Some.ensures.next.agent, c.requires.moved, c.from-i.ensures, places_long c.args.machine.now c.loop-i.cursor.from c.loop-i.row c.loop-i.begins c.loop-i.places c.loop-i.invariant.kept)

pub copy_places-requires : goal.copy_places-requires
copy_places-requires c =
    omega (arith, length-set {A = Place}, ap length c.agents-rows.ensures, places_long c.args.machine.now c.loop-i.cursor.from c.loop-i.row c.loop-i.begins c.loop-i.places c.loop-i.invariant.kept)
