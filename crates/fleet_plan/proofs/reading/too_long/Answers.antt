use Rattle.std.proofs.Common.{sym, rules}
use Rattle.fleet_plan.proofs.CellLaws.{passes}
use Rattle.fleet_plan.proofs.LineLoop.{fewer_words, no_blank_after, long_ends, long_fails, long_next}
use Rattle.fleet_plan.proofs.reading.too_long.Goals as goal

pub returns-in_default : goal.returns-in_default
returns-in_default c = long_fails c.args.number c.loop-rest.rest.now _ (search rules) c.loop-rest.invariant.front (sym c.in_default.ensures) c.loop-rest.invariant.so_far

pub loop-rest-smaller : goal.loop-rest-smaller
loop-rest-smaller c =
    let rest = c.loop-rest.rest.now in
    fewer_words rest _ _ (passes rest _ _ c.loop-rest.invariant.front (sym c.in-Some.ensures))

pub returns : goal.returns
returns c = long_ends c.args.number c.loop-rest.rest.now _ (search rules) c.loop-rest.invariant.so_far

pub loop-rest-preserved : goal.loop-rest-preserved
loop-rest-preserved c =
    let l = c.loop-rest in
    let found = sym c.in-Some.ensures in
    record {
      front = no_blank_after l.rest.now _ _ l.invariant.front found;
      so_far = long_next c.args.number l.rest.now _ _ _ l.invariant.front found l.invariant.so_far;
    }
