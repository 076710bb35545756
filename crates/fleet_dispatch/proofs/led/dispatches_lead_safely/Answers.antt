use Rattle.fleet_dispatch.proofs.Leading.{safely_led, carried_out, ordered_at_once}
use Rattle.fleet_dispatch.proofs.Promises.{leads_well, says_alike, heard_together}
use Rattle.fleet_dispatch.proofs.AsRun.{as_run}
use Rattle.fleet_dispatch.proofs.Told.{tells_what_is_ordered}
use Rattle.fleet_dispatch.proofs.Kept.{leads_there}
use Rattle.fleet_dispatch.proofs.led.dispatches_lead_safely.Goals as goal

pub returns-clause-safely : goal.returns-clause-safely
returns-clause-safely c = safely_led

pub returns-clause-can : goal.returns-clause-can
returns-clause-can c = carried_out

pub returns-clause-at_once : goal.returns-clause-at_once
returns-clause-at_once c = ordered_at_once

pub returns-clause-well : goal.returns-clause-well
returns-clause-well c passable tasks p ok ahead reports taken = leads_well p ahead reports taken passable tasks ok

pub returns-clause-told : goal.returns-clause-told
returns-clause-told c = tells_what_is_ordered

pub returns-clause-resume : goal.returns-clause-resume
returns-clause-resume c = says_alike

pub returns-clause-together : goal.returns-clause-together
returns-clause-together c = heard_together

pub returns-clause-machine : goal.returns-clause-machine
returns-clause-machine c p form reports taken = as_run p reports taken form

pub returns-clause-kept : goal.returns-clause-kept
returns-clause-kept c = leads_there
