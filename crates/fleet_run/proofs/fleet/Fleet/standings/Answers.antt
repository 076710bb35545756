use Rattle.fleet_run.proofs.fleet.Fleet.standings.Goals as goal

pub returns-clause-reached : goal.returns-clause-reached
returns-clause-reached g c = rw (← c.self.view_is) c.self.invariant.reached
