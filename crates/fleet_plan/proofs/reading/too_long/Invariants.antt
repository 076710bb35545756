use Rattle.fleet_plan.proofs.Words.{◌≡◌, false, length, starts_blank, words, too_long}
use Rattle.fleet_plan.proofs.reading.too_long.Given as goal

abbrev pub invariant-loop-rest : goal.invariant-loop-rest
invariant-loop-rest l = record {
  front : starts_blank l.rest ≡ false;
  so_far : too_long l.number l.rest ≡ too_long l.number l.fn.text;
}

abbrev pub decreases-loop-rest : goal.decreases-loop-rest
decreases-loop-rest l = length (words l.rest)
