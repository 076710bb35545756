use Rattle.fleet_verify.proofs.Promised.{runs_badly}
use Rattle.fleet_verify.proofs.promises.refusals_are_right.Goals as goal

pub returns-clause-fault : goal.returns-clause-fault
returns-clause-fault c passable tasks p f h = h.fault

pub returns-clause-refused : goal.returns-clause-refused
returns-clause-refused c passable tasks p f h = h.not_accepted

pub returns-clause-badly : goal.returns-clause-badly
returns-clause-badly c = runs_badly

pub returns-clause-broken : goal.returns-clause-broken
returns-clause-broken c passable tasks p f h = h.broken

pub returns-clause-of_order : goal.returns-clause-of_order
returns-clause-of_order c passable tasks p f h = h.of_order
