use Rattle.fleet_verify.proofs.Words.{arith, get_or-set_same, get_or-set_other, NO_VISIT}
use Rattle.fleet_verify.proofs.last_visits.exchange.Goals as goal

pub returns-clause-written : goal.returns-clause-written
returns-clause-written c = record {
  here = get_or-set_same c.args.square.now c.args.place c.args.number NO_VISIT (omega (arith, c.told-square, c.requires));
  others = λ k ne. get_or-set_other c.args.square.now c.args.place k c.args.number NO_VISIT ne;
}
