use Rattle.std.proofs.Common.{arith}
use Rattle.fleet_run.proofs.line.resize_to.Goals as goal

pub shift_begins-requires-clause-room : goal.shift_begins-requires-clause-room
shift_begins-requires-clause-room c = λ k l. omega (arith, (c.requires.before k l).0, c.in-Some.ensures.place.room)

pub shift_begins-requires-clause-fit : goal.shift_begins-requires-clause-fit
shift_begins-requires-clause-fit c = λ k l. omega (arith, (c.requires.before k l).1, c.in-Some.ensures.place.fits, c.requires.number.within)

pub returns-in-Some-clause-resized : goal.returns-in-Some-clause-resized
returns-in-Some-clause-resized c = λ is. record {
  to = c.in-Some.to;
  place = rw (← c.from-front.ensures, ← c.from-begin.ensures, ← c.from-end.ensures) c.in-Some.ensures.place;
  written = rw (← c.from-front.ensures, ← c.from-begin.ensures, ← c.from-end.ensures) c.resize_text.ensures;
  long = c.shift_begins.auto.begins;
  moved = rw (← c.from-begin.ensures) c.shift_begins.ensures.shifted;
  others = c.shift_begins.ensures.others;
}
