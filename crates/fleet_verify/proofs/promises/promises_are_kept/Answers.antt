use Rattle.fleet_verify.proofs.Promised.{runs_well}
use Rattle.fleet_verify.proofs.promises.promises_are_kept.Goals as goal

pub returns-clause-safe : goal.returns-clause-safe
returns-clause-safe c passable p chain h = h.right.safe

pub returns-clause-owned : goal.returns-clause-owned
returns-clause-owned c passable p chain h q = let t = h.in_turn q in (t.listing, t.lists, t.after, t.owned)

pub returns-clause-arrives : goal.returns-clause-arrives
returns-clause-arrives c passable p chain h holds = (h.in_time holds).arrives

pub returns-clause-well : goal.returns-clause-well
returns-clause-well c passable p chain h = runs_well passable p h.right
